mod ElementSteps
pub mod ElementLaws
mod RowSteps

pub mod SettleLaws
pub mod RefusalSteps
pub mod PrepareSteps
pub mod RunSteps
pub mod RunsAgree
pub mod RunsOrdered

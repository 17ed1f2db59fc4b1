pub mod Columns
pub mod Folds

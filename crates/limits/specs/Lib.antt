pub mod Limits
pub mod Tally

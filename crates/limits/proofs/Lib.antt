pub mod Steps
pub mod Counted
pub mod Agrees

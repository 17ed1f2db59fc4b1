-- Which aggregates name a block, and where their values lie.
pub mod Asking
pub mod Groups

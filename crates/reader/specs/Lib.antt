pub mod Causes
pub mod Leaves
pub mod Walk

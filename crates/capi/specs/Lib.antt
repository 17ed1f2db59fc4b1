-- What the exported functions promise.
pub mod Calls

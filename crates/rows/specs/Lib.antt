pub mod Insertion
pub mod Plain

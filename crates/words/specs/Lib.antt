pub mod Words
pub mod Encoding

-- What an evaluation looks at, which rows it tries, and the indexes it scans by.
pub mod World
pub mod Access
pub mod Indexing

-- Which aggregates a question asks of its blocks, and the files that tell their values.
pub mod Asks
pub mod Files
pub mod Memo

-- Lemmas on a stream's bytes.
pub mod Filling

-- The parts of a stream.
pub mod Parts

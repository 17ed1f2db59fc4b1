-- The parts of the work buffers.
pub mod Parts

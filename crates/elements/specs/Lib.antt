-- The values of elements at a match, conditions, and output rows, in words.
pub mod Elements

-- What the description of a block tells, and descriptions that lie in words.
pub mod Outlines
pub mod Stored

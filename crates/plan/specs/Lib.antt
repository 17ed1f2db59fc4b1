-- What one block of the subtree and one record of the plan give, the one variable of a set, and that of the first
-- relation row which is used after it.
pub mod Parts
pub mod Sole
pub mod After

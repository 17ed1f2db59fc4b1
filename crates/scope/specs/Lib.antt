-- Sets of variables as masks, what is held at the places of a block, the variables that it shows, and the items of
-- output columns.
pub mod Masks
pub mod Gathering
pub mod Shown
pub mod Columns

-- Other crates cite Laws (bounds, order), Averaging, Empty (an aggregate of an empty set), and Ints (sizes of
-- sums and products); the rest serve these.
pub mod Ints
pub mod Euclid
pub mod Laws
pub mod Averaging
pub mod Empty

-- The laws that other crates cite: Inserting (`outcome`, `encodes_after`), CaseLaws (`placed`), Cost
-- (`nine_comparisons`). The rest serve these.
pub mod CompareLoop
pub mod PlainLaws
pub mod SearchLoop
pub mod CaseLaws
pub mod Bisection
pub mod RowOrder
pub mod Inserting
pub mod Cost

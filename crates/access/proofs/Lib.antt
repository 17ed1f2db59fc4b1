-- The laws that other crates cite; CodeLaws serves the functions.
pub mod SureLaws
pub mod SureBlocks
pub mod RowLaws
pub mod HeldLaws
pub mod AccessLaws
pub mod KeyLaws
pub mod MergeFreeLaws
pub mod EmptyLaws
pub mod IndexingLaws
mod CodeLaws

-- Laws that callers cite (SoleLaws, AfterLaws), and those of the subtree of a block, of its relation rows, and of the
-- plan's records, over plain values.
pub mod SoleLaws
pub mod AfterLaws
pub mod SubtreeLaws
pub mod RowLaws
pub mod RecordLaws

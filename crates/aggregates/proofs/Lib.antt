-- The laws that other crates cite: Aggregating (`aggregated`), FairSets (`set_fair`), FairValues (the values, rows and
-- aggregates of an evaluation). The rest serve these.
pub mod ColumnLaws
pub mod SumLoop
pub mod ExtremeLoop
pub mod FunctionLaws
pub mod Aggregating
pub mod FairSets
pub mod FairValues

-- The trials counted against the budget.
pub mod Clock

-- The laws of the clock, that callers cite.
pub mod ClockLaws

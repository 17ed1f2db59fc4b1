-- Other crates cite ChartAnswers and Orders.
pub mod ChartAnswers
pub mod Orders

pub mod Chart
pub mod ChartAnswers

pub mod Places
pub mod Texts
pub mod Budgets
pub mod AsRead

-- The laws of a reply.
pub mod ReplyLaws
pub mod BudgetLaws

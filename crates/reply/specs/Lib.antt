-- The text for the bytes of a job.
pub mod Reply

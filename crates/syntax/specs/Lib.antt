-- The question's bytes by place.
pub mod Places
pub mod Described
pub mod Walks

-- The answers in plain fields.
pub mod Replies

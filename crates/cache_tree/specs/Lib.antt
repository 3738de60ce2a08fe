-- What the crate's contracts cite.
pub mod Answers
pub mod Chunks
pub mod Orders
pub mod Shape

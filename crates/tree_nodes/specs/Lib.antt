-- What the crate's contracts cite.
pub mod Answers
pub mod Flat
pub mod Levels

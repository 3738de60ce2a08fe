-- Definitions that the contracts cite.
pub mod Answers
pub mod Writing

-- What the functions of this crate answer.
pub mod Answers
pub mod Record

-- Laws that the proofs of this crate cite.
pub mod Answers
pub mod Edits
pub mod Plans
pub mod Files

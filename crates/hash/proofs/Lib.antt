-- Laws that several proofs cite.
pub mod Blocks
pub mod Bytes
pub mod Schedule

-- Laws that several proofs cite.
pub mod Blocks
pub mod Buffers
pub mod Copying
pub mod Padding
pub mod Schedule
pub mod Words

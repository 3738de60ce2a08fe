-- Laws that the functions' proofs cite.
pub mod Ahead
pub mod First

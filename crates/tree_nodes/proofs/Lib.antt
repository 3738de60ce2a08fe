-- Laws that the functions' proofs cite.
pub mod Flat
pub mod Levels
pub mod Nodes
pub mod Numbers
pub mod Readings
pub mod Trees

-- Laws that the functions' proofs cite.
pub mod Components
pub mod Levels
pub mod Loops
pub mod Nodes
pub mod Parts
pub mod Steps
pub mod Surveys
pub mod Turns
pub mod Walks
pub mod Wholes

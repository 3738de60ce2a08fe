-- Laws of what is written of a cache tree.
pub mod Names
pub mod Nodes
pub mod Steps
pub mod Trees
pub mod Paths
pub mod Wholes

-- Laws that the proofs of the functions cite.
pub mod Entries
pub mod Nodes
pub mod Places
pub mod Records
pub mod Summaries
pub mod Views

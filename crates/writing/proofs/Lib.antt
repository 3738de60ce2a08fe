-- What is written. Decimals, Names, Entries, Tree, Undo and File: it is spelled by its records, and what is spelled is sound. Copies: what of it
pub mod Answers
pub mod Copies
pub mod Counts
pub mod Decimals
pub mod Edits
pub mod Entries
pub mod File
pub mod Invalid
pub mod Names
pub mod Smallest
pub mod Tree
pub mod Undo

-- The whole file, as it is spelled and as it is read.
pub mod Bytes
pub mod Checksums
pub mod Entries
pub mod Extensions
pub mod File
pub mod Flags
pub mod Fuel
pub mod Names
pub mod Texts
pub mod Tree
pub mod Undo
pub mod Zeroed
pub mod ZeroedFile
pub mod ZeroedNames

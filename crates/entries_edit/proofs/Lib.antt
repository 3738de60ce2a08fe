-- Laws of entries that are edited.
pub mod Edits
pub mod Records
pub mod Rests

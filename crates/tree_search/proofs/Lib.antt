-- Laws of siblings, of what is told of them, and of the tables and rows of cursors.
pub mod Siblings
pub mod Telling
pub mod Places
pub mod Frames
pub mod Rows
pub mod Tables
pub mod Lookup

-- What is changed among entries, and what their writing leaves behind.
pub mod Edits
pub mod Rests

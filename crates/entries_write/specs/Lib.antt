-- What functions that write entries are told, and what they leave behind.
pub mod Parts

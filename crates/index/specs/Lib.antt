-- What the calls on an index leave behind.
pub mod Calls

-- What the calls that write an index leave behind.
pub mod Calls

-- Laws of entries that are written.
pub mod Names
pub mod Words
pub mod Copies
pub mod Lists
pub mod Stepping
pub mod Runs

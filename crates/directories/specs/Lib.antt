-- Definitions that other crates cite.
pub mod Names

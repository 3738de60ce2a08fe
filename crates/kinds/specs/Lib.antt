-- Definitions that the contracts cite.
pub mod Kinds

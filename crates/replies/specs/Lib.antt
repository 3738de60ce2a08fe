-- The answers as lists of numbers.
pub mod Arrays

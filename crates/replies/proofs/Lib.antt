-- Laws of replies as lists of numbers: their parts, what a program reads from them, and what is 0 in them.
pub mod Laws
pub mod Reading
pub mod Zeros

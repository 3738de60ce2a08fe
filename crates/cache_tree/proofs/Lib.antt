-- Laws that the functions' proofs cite.
pub mod Apart
pub mod Below
pub mod Faults
pub mod Lists
pub mod Names
pub mod Shape
pub mod Siblings

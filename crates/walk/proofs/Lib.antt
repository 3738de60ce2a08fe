-- Laws of a walk, and the theorem that it shows the entries of a file one after another.
pub mod Examples
pub mod Plain
pub mod Proved
pub mod Seeing
pub mod Starts
pub mod Statements
pub mod Steps

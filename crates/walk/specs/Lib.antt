-- What a walk over the entries of a file answers.
pub mod Sights
pub mod Walks

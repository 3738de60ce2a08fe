-- What the crate's contracts cite.
pub mod Begun
pub mod Words
pub mod Workspace

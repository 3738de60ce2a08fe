-- What the functions of this crate lean on.
pub mod Beginnings
pub mod Laws
pub mod Workspace

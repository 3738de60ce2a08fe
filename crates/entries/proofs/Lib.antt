-- What the functions of this crate lean on.
pub mod Before
pub mod Fields
pub mod Names
pub mod Reading

-- What the crate's contracts cite.
pub mod Siblings
pub mod Table
pub mod Rows

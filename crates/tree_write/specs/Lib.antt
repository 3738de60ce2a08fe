-- What the crate's contracts cite.
pub mod Steps
pub mod Written

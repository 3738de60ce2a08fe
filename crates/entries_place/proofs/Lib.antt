-- What the functions of this crate lean on, and what their callers do.
pub mod Finding
pub mod Keys
pub mod Places

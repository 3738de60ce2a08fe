-- What the functions of this crate lean on.
pub mod Mapped
pub mod Names
pub mod PackedRests
pub mod PlainRests
pub mod Rests
pub mod Steps

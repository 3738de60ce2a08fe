-- What the functions of this crate answer: Heads of an extension's head, Found of what was found, Steps of one extension and of all.
pub mod Found
pub mod Heads
pub mod Steps

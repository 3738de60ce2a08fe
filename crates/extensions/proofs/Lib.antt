-- What the functions of this crate lean on: Heads has the tests of an extension's head, Faults the number of a fault in the data of
pub mod Faults
pub mod Heads
pub mod Known
pub mod Mapped
pub mod Places
pub mod Runs
pub mod Trees

-- Laws of names in order and in a directory. Read in this order.
pub mod Names
pub mod Prefixes
pub mod Order
pub mod Runs

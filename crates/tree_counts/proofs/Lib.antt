-- The laws of the counts of a cache tree. Read in this order.
pub mod Counts
pub mod Readings
pub mod Runs
pub mod Siblings
pub mod Tests
pub mod Walk

-- The counts of a cache tree by the entries: Counts says what is tested, Runs how names are together in a directory.
pub mod Counts
pub mod Runs

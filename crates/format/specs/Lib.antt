-- The format of Git's index file. Read in this order: Bytes, Names, Records and Layout say what a file is; Reading and Reader, how it is
pub mod Bytes
pub mod Checksum
pub mod Layout
pub mod Names
pub mod Places
pub mod Reader
pub mod Reading
pub mod Records
pub mod Refusals
pub mod Requests
pub mod Tails
pub mod Writer

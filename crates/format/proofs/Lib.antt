-- The cases of the requirements that are proved, and further closed cases.
pub mod Cases
pub mod Examples
pub mod Requested
pub mod Stages
pub mod Versions

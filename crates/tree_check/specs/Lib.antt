-- Definitions that the contracts cite.
pub mod Answers
pub mod Components
pub mod Keys
pub mod Nodes
pub mod Steps
pub mod Survey

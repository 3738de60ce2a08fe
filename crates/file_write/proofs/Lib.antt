-- Laws that the proofs of this crate cite.
pub mod Bodies
pub mod Extensions
pub mod Files

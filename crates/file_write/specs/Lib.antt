-- What the contracts of this crate cite.
pub mod Bodies
pub mod Results

-- Laws that the functions' proofs cite.
pub mod Bodies
pub mod Files
pub mod Headers
pub mod Room

-- Laws of outputs.
pub mod Laws

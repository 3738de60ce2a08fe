-- What a part that is written leaves in an output.
pub mod Output

-- Definitions that the contracts cite.
pub mod Contents
pub mod Header

-- The demands: Statements states them, Proved, Written, Asked, Tails and Stages have the proofs, Demands joins the two. Witness, WitnessSha256,
-- WitnessLeftOut, WitnessStages and WitnessVersions have closed cases, made of Samples.
pub mod Asked
pub mod Demands
pub mod Proved
pub mod Samples
pub mod Stages
pub mod Statements
pub mod Tails
pub mod Witness
pub mod WitnessLeftOut
pub mod WitnessSha256
pub mod WitnessStages
pub mod WitnessVersions
pub mod Written

-- The laws of the judge's output, for this crate's proofs and for those of the program.
pub mod Handed
pub mod Lines
pub mod Determined
pub mod Example

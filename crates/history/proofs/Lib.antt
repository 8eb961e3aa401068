-- The laws of a line of a history, for this crate's proofs and for those of the crates that read histories.
pub mod Steps
pub mod Reading
pub mod Determined
pub mod Edges

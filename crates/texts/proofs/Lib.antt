-- The laws of texts that grow, for this crate's proofs and for those of the crates that write lines.
pub mod Growing

-- The laws of messages, for this crate's proofs and for those of the copy.
pub mod Items
pub mod Steps
pub mod Lengths
pub mod Putting
pub mod Exactly
pub mod Bad
pub mod Determined
pub mod Room

-- The laws of decimal text, for this crate's proofs and for those of the crates that read or write it.
pub mod Digits
pub mod Steps
pub mod Reading
pub mod Values
pub mod Tabs
pub mod Writing
pub mod Putting
pub mod Back
pub mod Bad

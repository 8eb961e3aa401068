-- The laws of the judge's pass and of its answers, for this crate's proofs; and that what it says is right.
pub mod Limits
pub mod Comes
pub mod Turn
pub mod Answers
pub mod Shown
pub mod Pass
pub mod Right
pub mod Determined
pub mod Example
pub mod Ends
pub mod Refused

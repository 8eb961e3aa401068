-- The laws of copies: what a copy holds after any arrivals, and what the proofs of its code cite.
pub mod Steps
pub mod Newest
pub mod Determined
pub mod Refused
pub mod Replaced

-- The definitions that the theorems of demand 3 cite.
pub mod Sent
pub mod Values
pub mod Held
pub mod Named

-- The definitions that the contracts and the theorems cite: a copy, and what it takes.
pub mod Copy
pub mod Arrivals

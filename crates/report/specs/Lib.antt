-- The definitions that the contracts cite: the judge's output as text, and writing it.
pub mod Report
pub mod Write

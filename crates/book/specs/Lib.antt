-- The definitions that the contracts cite: where each thing lies in the judge's memory, and what its words stand for.
pub mod Layout
pub mod Book

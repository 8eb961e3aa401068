-- The definitions that the contracts cite, and what the theorems say: a line read, and its text.
pub mod Line
pub mod Text

-- The definitions that the contracts cite: a message as text, reading it, writing it.
pub mod Line
pub mod Read
pub mod Write

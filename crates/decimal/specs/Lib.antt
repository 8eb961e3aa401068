-- The definitions that the contracts cite: decimal text, reading it, writing it.
pub mod Text
pub mod Read
pub mod Write

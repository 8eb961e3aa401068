pub mod Bounds
pub mod Refusal
pub mod Version
pub mod Batch

pub mod Batch
pub mod Last

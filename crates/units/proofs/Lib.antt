pub mod Numbers
pub mod Named
pub mod Batches

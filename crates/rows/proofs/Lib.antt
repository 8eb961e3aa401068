pub mod Words
pub mod Halves
pub mod Walk
pub mod Lines
pub mod Stored
pub mod Determined

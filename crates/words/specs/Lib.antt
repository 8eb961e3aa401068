pub mod Installed
pub mod After

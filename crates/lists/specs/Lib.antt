pub mod Lists
pub mod Members
pub mod Along

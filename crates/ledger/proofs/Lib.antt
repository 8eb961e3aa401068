pub mod Cases
pub mod After
pub mod Determined

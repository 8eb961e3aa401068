-- The theorems of demand 3.
pub mod Values
pub mod Messages
pub mod Held
pub mod Named
pub mod Quiet
pub mod Again
pub mod Equal
pub mod Delivery

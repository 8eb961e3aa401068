pub mod Installing
pub mod After

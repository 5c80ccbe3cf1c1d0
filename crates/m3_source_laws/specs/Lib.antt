pub mod Laws
pub mod Growing
pub mod Limits
pub mod Own

pub mod Agreeing
pub mod Staying
pub mod Following
pub mod Growing

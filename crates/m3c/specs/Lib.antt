pub mod Command
pub mod Agreeing

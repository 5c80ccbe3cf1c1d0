pub mod Example
pub mod Typing

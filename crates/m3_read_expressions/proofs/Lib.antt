pub mod Looseness
pub mod Begun
pub mod Spelling

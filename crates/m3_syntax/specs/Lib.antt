pub mod Lexis
pub mod Spellings

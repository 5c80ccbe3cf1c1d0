pub mod Terms
pub mod PlainForm
pub mod Lexing
pub mod Parsing

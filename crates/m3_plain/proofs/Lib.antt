pub mod Numbers
pub mod Lexes
pub mod Parsings
pub mod Grammar
pub mod Lexical
pub mod PlainTexts
pub mod Bounds

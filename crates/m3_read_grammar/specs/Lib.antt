pub mod Expressions
pub mod Names
pub mod Operators
pub mod Plain
pub mod Ranks
pub mod Statements
pub mod Tokens
pub mod Units

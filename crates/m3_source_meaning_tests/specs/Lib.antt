pub mod Trees
pub mod Example

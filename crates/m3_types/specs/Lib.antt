pub mod Definitions
pub mod Kinds
pub mod Reveals
pub mod Noting
pub mod Marks

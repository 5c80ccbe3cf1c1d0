pub mod Collections
pub mod Ending

pub mod Kinds
pub mod Memory
pub mod Calls
pub mod Operations
pub mod WellFormed

pub mod Deeds
pub mod Turns
pub mod RunCalls
pub mod Faults

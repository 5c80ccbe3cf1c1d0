pub mod Instructions
pub mod Memory
pub mod Effects
pub mod Arithmetic
pub mod CodeBytes
pub mod LowCopies

pub mod Addresses
pub mod Kept
pub mod OutsideLaws
pub mod MemoryLaws

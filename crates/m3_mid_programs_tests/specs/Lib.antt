pub mod Example
pub mod Laws
pub mod Raising
pub mod Texts

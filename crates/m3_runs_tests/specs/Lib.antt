pub mod Code
pub mod Meaning
pub mod Named
pub mod Moving
pub mod Sound
pub mod Laws
pub mod Example

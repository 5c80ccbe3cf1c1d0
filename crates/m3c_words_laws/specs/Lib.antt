pub mod Reads
pub mod Moving

pub mod Forms
pub mod Sides
pub mod Seen
pub mod Same
pub mod Facts
pub mod Meaning

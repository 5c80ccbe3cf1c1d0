pub mod Codes
pub mod Sums
pub mod Seeing
pub mod Knowing
pub mod Marks
pub mod Keeping
pub mod Events
pub mod Differ

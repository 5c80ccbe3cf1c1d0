pub mod Seen
pub mod Blanks
pub mod Cuts

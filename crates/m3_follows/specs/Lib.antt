pub mod Settings
pub mod Source
pub mod Frames
pub mod Follows
pub mod Laws

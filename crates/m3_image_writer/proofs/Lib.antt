pub mod Lengths
pub mod Joined
pub mod Again
pub mod AgainParts
pub mod AgainImage
pub mod ViewBytes

pub mod Every
pub mod Shifts
pub mod Plain
pub mod Copies
pub mod Fills
pub mod Codes

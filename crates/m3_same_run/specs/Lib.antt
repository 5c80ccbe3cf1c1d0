pub mod Check
pub mod Fits
pub mod Laws
pub mod Whole

pub mod Standing
pub mod Shown
pub mod Listed
pub mod Texts

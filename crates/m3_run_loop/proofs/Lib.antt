pub mod PlainSteps
pub mod Leading
pub mod Deeds
pub mod Keeping

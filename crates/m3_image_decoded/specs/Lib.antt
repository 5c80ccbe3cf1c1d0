pub mod Ancestors
pub mod Code
pub mod Ready
pub mod Jumps
pub mod Parts
pub mod ReadyTypes
pub mod RowViews

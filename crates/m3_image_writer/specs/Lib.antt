pub mod Fields
pub mod Sections
pub mod Variables
pub mod Image
pub mod Views
pub mod Again
pub mod Parts

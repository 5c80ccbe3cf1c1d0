pub mod Placing
pub mod StackPuts
pub mod Keeping

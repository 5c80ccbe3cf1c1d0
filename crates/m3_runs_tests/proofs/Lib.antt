pub mod Going
pub mod Sharing
pub mod Collecting
pub mod Once
pub mod Example
pub mod ExampleRun
pub mod Starting

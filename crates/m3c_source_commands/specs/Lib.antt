pub mod Judging
pub mod SourceCommands
pub mod Texts
pub mod Orders

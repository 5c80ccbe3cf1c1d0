pub mod Copied
pub mod Reading
pub mod ScheduleLemmas

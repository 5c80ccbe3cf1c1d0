pub mod PlainRuns
pub mod Rows
pub mod ByWords
pub mod Texts
pub mod Builds
pub mod Completes
pub mod Execs
pub mod Agree

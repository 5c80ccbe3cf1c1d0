pub mod Grammars
pub mod Found
pub mod Readings
pub mod PlainExec
pub mod Behind
pub mod Named
pub mod InRange
pub mod First

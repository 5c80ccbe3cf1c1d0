pub mod Remembering
pub mod Collecting
pub mod Inside
pub mod First

pub mod Standing
pub mod Stores
pub mod Courses
pub mod Agreeing

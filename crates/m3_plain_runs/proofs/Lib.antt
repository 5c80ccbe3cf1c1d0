pub mod Courses
pub mod Runs
pub mod Bodies
pub mod Steps
pub mod Following
pub mod Ending

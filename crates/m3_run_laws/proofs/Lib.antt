pub mod Stores
pub mod ThreadLists
pub mod ThreadSteps
pub mod Stays
pub mod Ending
pub mod Doing
pub mod Moving
pub mod Agreeing

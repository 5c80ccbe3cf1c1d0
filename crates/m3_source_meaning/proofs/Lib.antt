pub mod Trees
pub mod Determined
pub mod Laws

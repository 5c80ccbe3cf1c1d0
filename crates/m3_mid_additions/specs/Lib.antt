pub mod Additions
pub mod Naming
pub mod Laws

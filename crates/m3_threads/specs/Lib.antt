pub mod All
pub mod Spaces
pub mod Going
pub mod Actions
pub mod Lending
pub mod PlacesInside
pub mod Stacked
pub mod LendingStacks

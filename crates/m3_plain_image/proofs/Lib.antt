pub mod InLists
pub mod CodeShape
pub mod Building
pub mod Kept
pub mod Sound
pub mod Sizes
pub mod WholeParts
pub mod Rows

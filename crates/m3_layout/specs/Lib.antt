pub mod Pointers
pub mod Cells
pub mod Shapes
pub mod Depths
pub mod Walking

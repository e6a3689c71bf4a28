pub mod Cells
pub mod Writing
pub mod Rows
pub mod Shown
pub mod Putting
pub mod Blocks
pub mod Lined

pub mod Columns
pub mod Cells
pub mod Rows
pub mod Imported
pub mod Reading
pub mod Walking

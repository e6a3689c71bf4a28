-- What holds of the layouts, of items, and of how records are cut.
pub mod Lists
pub mod Numbers
pub mod Standing
pub mod Layouts
pub mod Packing
pub mod Widths
pub mod Items
pub mod Blocks
pub mod Chunks
pub mod Steps
pub mod Index
pub mod Written
pub mod Found
pub mod Strings
pub mod Faults

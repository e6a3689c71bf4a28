pub mod Ranges
pub mod Counts
pub mod Choosing
pub mod Values
pub mod Changes
pub mod Nodes
pub mod Editing

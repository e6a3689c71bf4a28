pub mod Block
pub mod Filling
pub mod Runs
pub mod Fields

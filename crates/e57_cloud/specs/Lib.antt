pub mod Section
pub mod Walk
pub mod Index
pub mod Chunks
pub mod Cloud
pub mod PathItem
pub mod Met
pub mod Written

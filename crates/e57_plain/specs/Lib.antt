pub mod Valid
pub mod Written
pub mod Tight
pub mod Pruned
pub mod Kept

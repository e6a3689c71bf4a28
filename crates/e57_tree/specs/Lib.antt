pub mod Numbers
pub mod Flat
pub mod Names
pub mod Judged
pub mod Paths
pub mod Copies
pub mod Held

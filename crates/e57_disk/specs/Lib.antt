pub mod Disk
pub mod Place

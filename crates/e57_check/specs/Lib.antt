pub mod Asking
pub mod Starts
pub mod Sorts
pub mod Passing
pub mod Judging
pub mod Clouds
pub mod Checking

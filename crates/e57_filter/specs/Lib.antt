pub mod Keeping
pub mod Marking
pub mod Asking
pub mod Asks
pub mod Selecting
pub mod KeptSection
pub mod Filtering

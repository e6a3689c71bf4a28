pub mod Closing
pub mod InARow
pub mod Copying

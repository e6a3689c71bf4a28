pub mod Asked
pub mod Keeping
pub mod Reading
pub mod Scanning
pub mod Showing
pub mod Streaming
pub mod BlobAsked
pub mod RowsAsked
pub mod Numbers
pub mod Names
pub mod OptionWords
pub mod Cutting
pub mod Putting
mod Checking
pub mod Anew

pub mod Section
pub mod Text
pub mod Opened
pub mod Blob
pub mod BlobReading

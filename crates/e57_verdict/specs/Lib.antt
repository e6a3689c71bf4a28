pub mod Blob
pub mod Things
pub mod Verdict
pub mod Content

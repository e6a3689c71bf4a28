pub mod Content
pub mod Text
pub mod Records
pub mod Writing
pub mod Summing
pub mod Accepted
pub mod Building

pub mod Laws
mod Cases
pub mod Lawful
mod Columns
mod TwoChunks

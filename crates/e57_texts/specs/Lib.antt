pub mod Standing
pub mod Prefix
pub mod Short
pub mod Pieces
pub mod Reading
pub mod Steps

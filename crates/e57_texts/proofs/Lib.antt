pub mod Prefixes
pub mod Pieces
pub mod Held
pub mod Texts
pub mod Lengths
pub mod Nexts
pub mod Rows
pub mod Filling

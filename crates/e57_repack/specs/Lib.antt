pub mod Copying
pub mod Anew
pub mod Widening
pub mod Ranges
pub mod Repacking

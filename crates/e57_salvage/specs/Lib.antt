pub mod Blobs
pub mod Lines
pub mod Saved
pub mod Damage

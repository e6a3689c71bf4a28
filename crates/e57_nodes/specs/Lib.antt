pub mod Facts
pub mod Shape
pub mod Paths
pub mod Places
pub mod Limits
pub mod Fields
pub mod Typed
pub mod Items

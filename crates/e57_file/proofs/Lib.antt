pub mod Sections
pub mod NodeKinds
pub mod Opening
pub mod Blobs

pub mod Sealed
pub mod HeaderBytes
pub mod Writing
pub mod Sequences
pub mod Buffer

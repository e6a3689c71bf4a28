pub mod Writing
pub mod Digits
pub mod Held
pub mod Lines
pub mod Cells
pub mod Records
pub mod Puts

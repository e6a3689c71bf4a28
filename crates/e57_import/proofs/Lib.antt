pub mod Numerals
pub mod Records
pub mod Walked
pub mod Judging
pub mod WholeFile

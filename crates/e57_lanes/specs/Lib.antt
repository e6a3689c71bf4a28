pub mod Unpack
pub mod Eight
pub mod Pack
pub mod PackSteps
pub mod Begun

pub mod Laws
pub mod Fronts
pub mod Loops
pub mod Names
pub mod Steps
pub mod Encodings

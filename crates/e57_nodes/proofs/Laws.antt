-- What holds of the definitions.
pub mod Decimals
pub mod Values
pub mod Places
pub mod Sound
pub mod Stated

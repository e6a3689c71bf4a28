-- What holds of the nodes by their numbers.
pub mod Flat

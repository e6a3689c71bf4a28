-- Laws of the search in an index.
pub mod Onward
pub mod Once

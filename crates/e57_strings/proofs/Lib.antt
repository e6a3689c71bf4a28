pub mod HoldsLaws
pub mod Prefixes

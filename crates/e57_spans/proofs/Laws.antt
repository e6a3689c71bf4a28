-- What holds of spans.
pub mod Chains
pub mod Found
pub mod Items
pub mod Sound
pub mod Saved
pub mod Paths
pub mod Walks
pub mod Covered
pub mod Exact

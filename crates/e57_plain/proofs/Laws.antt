-- What holds of the written form.
pub mod Pages
pub mod Sections
pub mod Whole
pub mod Accepted
pub mod Typing
pub mod Typed
pub mod Limits
pub mod LimitedTrees
pub mod Narrowed
pub mod Tight
pub mod Forms
pub mod Pruned
pub mod WithCloud
pub mod Changed
pub mod Kept

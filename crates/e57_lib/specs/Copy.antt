-- Passed on of e57_copy: records, clouds and blobs that are copied, and what a file written anew is.
pub use Rattle.e57_copy.specs.Adding
pub use Rattle.e57_copy.specs.Copying
pub use Rattle.e57_copy.specs.Found
pub use Rattle.e57_copy.specs.Items
pub use Rattle.e57_copy.specs.Rewriting

-- Passed on of e57_tree: the clouds, fields and blobs that a tree gives.
pub use Rattle.e57_tree.specs.Held
pub use Rattle.e57_tree.specs.declared.items

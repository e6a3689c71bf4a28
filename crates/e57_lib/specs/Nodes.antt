-- Passed on of e57_nodes: what elements mean, the first fault of nodes, the clouds and blobs of a tree.
pub use Rattle.e57_nodes.specs.Shape
pub use Rattle.e57_nodes.specs.Typed
pub use Rattle.e57_nodes.specs.Items

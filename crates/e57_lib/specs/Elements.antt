-- Passed on of e57_elements: element trees.
pub use Rattle.e57_elements.specs.Tree
pub use Rattle.e57_elements.specs.Lawful

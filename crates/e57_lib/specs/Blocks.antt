-- Passed on of e57_blocks: blocks of items, of one field or several side by side.
pub use Rattle.e57_blocks.specs.Block
pub use Rattle.e57_blocks.specs.Fields
pub use Rattle.e57_blocks.specs.Runs

-- Passed on of e57_page_out, e57_file_out and e57_edits: the pages of a new file, blobs that are copied, its end, edited trees.
pub use Rattle.e57_page_out.specs.Writing
pub use Rattle.e57_page_out.specs.Sequences
pub use Rattle.e57_file_out.specs.Copying
pub use Rattle.e57_file_out.specs.InARow
pub use Rattle.e57_file_out.specs.Closing
pub use Rattle.e57_edits.specs.Editing
pub use Rattle.e57_edits.specs.Counts
pub use Rattle.e57_edits.specs.Ranges

-- Passed on of e57_column: what a column is, and what its calls answer.
pub use Rattle.e57_column.specs.Column
pub use Rattle.e57_column.specs.Reading
pub use Rattle.e57_column.specs.Answers
pub use Rattle.e57_column.specs.Texts
pub use Rattle.e57_column.specs.declared.state

-- Passed on of e57_ahead: the width of a Float field's items.
pub use Rattle.e57_ahead.specs.Counting

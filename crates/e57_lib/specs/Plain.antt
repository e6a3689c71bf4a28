-- Passed on of e57_plain: which contents are valid, and their written form.
pub use Rattle.e57_plain.specs.Valid
pub use Rattle.e57_plain.specs.Written

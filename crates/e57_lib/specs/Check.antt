-- Passed on of e57_check: what `check` answers.
pub use Rattle.e57_check.specs.Checking

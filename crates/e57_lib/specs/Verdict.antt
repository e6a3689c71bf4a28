-- Passed on of e57_verdict: the verdict on a file, and what it holds.
pub use Rattle.e57_verdict.specs.Verdict
pub use Rattle.e57_verdict.specs.Content

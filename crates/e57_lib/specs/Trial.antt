-- Passed on of e57_trial: a file made of two numbers.
pub use Rattle.e57_trial.specs.Content
pub use Rattle.e57_trial.specs.Writing
pub use Rattle.e57_trial.specs.Building
pub use Rattle.e57_trial.specs.declared.build

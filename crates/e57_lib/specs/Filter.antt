-- Passed on of e57_filter: what is asked of one cloud, and a file written anew with what is kept of it.
pub use Rattle.e57_filter.specs.Asking
pub use Rattle.e57_filter.specs.Asks
pub use Rattle.e57_filter.specs.declared.ask

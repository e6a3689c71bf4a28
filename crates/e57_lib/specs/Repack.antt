-- Passed on of e57_repack: a file written anew.
pub use Rattle.e57_repack.specs.Repacking

-- Passed on of e57_chunk_out: the section of a cloud as it is written.
pub use Rattle.e57_chunk_out.specs.CloudCalls
pub use Rattle.e57_chunk_out.specs.Standing
pub use Rattle.e57_chunk_out.specs.Texts

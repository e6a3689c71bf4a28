-- Passed on of e57_file: an opened file, and its blobs.
pub use Rattle.e57_file.specs.Opened
pub use Rattle.e57_file.specs.Blob
pub use Rattle.e57_file.specs.BlobReading

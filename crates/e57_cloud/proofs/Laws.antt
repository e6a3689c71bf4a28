-- What holds of sections: of spans, walks, the index, chunks and items.
pub mod Spans
pub mod Walks
pub mod Indexes
pub mod Chunks
pub mod Columns
pub mod Entries
pub mod Written
pub mod Pieces
pub mod Descents
pub mod Reached
pub mod Items
pub mod Refusals
pub mod Sections
pub mod Fronts
pub mod Covers
pub mod Found
pub mod Streams

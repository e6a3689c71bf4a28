pub mod Spans
pub mod Judged
pub mod Lost
pub mod Saved

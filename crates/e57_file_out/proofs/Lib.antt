pub mod Finished
mod ClosingSteps
pub mod InARow
mod Spans
mod CopySteps

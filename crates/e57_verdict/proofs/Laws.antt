-- What holds of verdicts and contents.
pub mod Opening
pub mod Verdicts

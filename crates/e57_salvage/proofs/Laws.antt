-- What holds of what is saved.
pub mod Recounted
pub mod Counts
pub mod Bodies
pub mod Valid
pub mod Sound

pub mod Progress
pub mod Feeds
pub mod Steps
pub mod Holds

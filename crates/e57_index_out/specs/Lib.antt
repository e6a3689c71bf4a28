pub mod EntryList
pub mod Levels

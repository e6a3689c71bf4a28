pub mod Lists
pub mod Options
pub mod Told
pub mod CountLaws
pub mod SourceLaws
pub mod OpeningLaws
mod NamedFiles
mod Rest
mod TornPage

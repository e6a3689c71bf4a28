pub mod Characters
pub mod Words
pub mod Grammar
pub mod Cut
pub mod Start
pub mod Reading
pub mod Gives

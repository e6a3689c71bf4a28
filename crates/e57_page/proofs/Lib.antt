pub mod PlaceLaws
pub mod KeptLaws
pub mod FileLaws
pub mod PagesLaws
pub mod Fetching
pub mod Pieces
pub mod Keeping
pub mod OpeningFile

pub mod BitLaws
pub mod Reading

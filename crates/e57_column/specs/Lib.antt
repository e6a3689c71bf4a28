pub mod Finding
pub mod Column
pub mod Answers
pub mod Asking
pub mod Reading
pub mod Texts
pub mod Going

pub mod Window
pub mod Asking
pub mod Standing
pub mod Taking
pub mod Reading
pub mod Integers
pub mod Words

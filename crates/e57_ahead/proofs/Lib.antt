pub mod Prefix
pub mod Standing
pub mod Pages
pub mod Taking
pub mod Looking
pub mod Resuming

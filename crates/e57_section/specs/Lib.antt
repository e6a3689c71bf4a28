pub mod Asking
pub mod Opening
pub mod Streams
pub mod Steps
pub mod Loading
pub mod Walking

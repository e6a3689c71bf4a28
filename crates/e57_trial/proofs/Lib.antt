mod Sums
mod Gathering
mod OfCloud
mod OneCloud
mod Opening
mod Reading
mod Forms
pub mod Texts
pub mod Trees
pub mod Columns
pub mod Tags
pub mod Handing
pub mod Lengths
pub mod Putting
pub mod Paging
pub mod Closing

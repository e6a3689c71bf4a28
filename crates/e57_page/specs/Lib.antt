pub mod Place
pub mod Kept
pub mod Header
pub mod File
pub mod XmlSection
pub mod Pages
pub mod Fetch
pub mod Opening

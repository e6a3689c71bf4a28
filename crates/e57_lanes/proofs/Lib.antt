pub mod PackLaws
pub mod Fields
pub mod Vectors
pub mod Items
pub mod Packs
pub mod PackedItems

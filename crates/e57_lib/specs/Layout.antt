-- Passed on of e57_layout: what the items of fields are; sections and fields.
pub use Rattle.e57_layout.specs.Values
pub use Rattle.e57_layout.specs.Items
pub use Rattle.e57_layout.specs.declared.field
pub use Rattle.e57_layout.specs.declared.section

-- Passed on of e57_section: how a section is opened, and where it lies.
pub use Rattle.e57_section.specs.Opening

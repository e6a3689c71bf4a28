-- Passed on of e57_page: a file's pages and header, offsets, what a read gives.
pub use Rattle.e57_page.specs.File
pub use Rattle.e57_page.specs.Header
pub use Rattle.e57_page.specs.Place
pub use Rattle.e57_page.specs.Pages
pub use Rattle.e57_page.specs.Opening

-- Passed on of e57_cloud: the records of a cloud, one item by its record, the pages on the way to it.
pub use Rattle.e57_cloud.specs.Cloud
pub use Rattle.e57_cloud.specs.PathItem
pub use Rattle.e57_cloud.specs.Met

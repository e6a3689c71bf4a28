-- Passed on of e57_base: what sources, targets and sinks tell, the objects in memory, faults.
pub use Rattle.e57_base.specs.Count
pub use Rattle.e57_base.specs.Source
pub use Rattle.e57_base.specs.Target
pub use Rattle.e57_base.specs.Sink
pub use Rattle.e57_base.specs.BytesSource
pub use Rattle.e57_base.specs.MemSource
pub use Rattle.e57_base.specs.MemTarget
pub use Rattle.e57_base.specs.MemSink
pub use Rattle.e57_base.specs.Opening
pub use Rattle.e57_base.specs.Fault
pub use Rattle.e57_base.specs.Kind
pub use Rattle.e57_base.specs.declared.fault

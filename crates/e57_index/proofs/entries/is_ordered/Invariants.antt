use Rattle.std.proofs.Common.{◌≡◌, ◌-◌, ◌*◌}
use Rattle.e57_layout.specs.IndexPackets.{entries_at}
use Rattle.e57_cloud.specs.Index.{rises, begins_and_rises}
use Rattle.e57_index.proofs.entries.is_ordered.Given as goal

abbrev pub invariant-loop-k : goal.invariant-loop-k
invariant-loop-k l = begins_and_rises l.first l.bound (entries_at l.entries 0 l.count) ≡ rises l.least l.bound (entries_at l.entries (16 * l.k) (l.count - l.k))

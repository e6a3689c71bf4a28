use Rattle.std.proofs.Common.{◌≡◌, ◌+◌, drop, length}
use Rattle.e57_edits.specs.Nodes.{remaining}
use Rattle.e57_edits.proofs.nodes.remaining.Given as goal

abbrev pub invariant-loop-n : goal.invariant-loop-n
invariant-loop-n l = record {
  all : length l.counts.items ≡ length l.raw + 1;
  same : drop l.n l.counts.items ≡ remaining (drop l.n l.changes) (drop l.n l.raw);
}

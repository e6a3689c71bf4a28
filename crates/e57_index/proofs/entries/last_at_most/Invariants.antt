use Rattle.std.proofs.Common.{◌-◌, ◌*◌, ◌<◌, ◌≤◌}
use Rattle.e57_layout.specs.IndexPackets.{entry_at}
use Rattle.e57_index.proofs.entries.last_at_most.Given as goal

abbrev pub invariant-loop-high : goal.invariant-loop-high
invariant-loop-high l =
    record {
      some : l.low < l.high;
      most : l.high ≤ l.count;
      low : (entry_at l.entries (16 * l.low)).first ≤ l.i;
      high : l.high < l.count → l.i < (entry_at l.entries (16 * l.high)).first;
    }

abbrev pub decreases-loop-high : goal.decreases-loop-high
decreases-loop-high l = l.high - l.low

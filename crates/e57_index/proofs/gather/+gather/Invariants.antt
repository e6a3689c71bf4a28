use Rattle.std.proofs.Common.{◌≡◌, ◌-◌, ◌*◌}
use Rattle.e57_layout.specs.IndexPackets.{entries_at}
use Rattle.e57_index.proofs.Gathered.{Walks, depth}
use Rattle.e57_index.proofs.gather.+gather.Given as goal

abbrev pub decreases-gather : goal.decreases-gather
decreases-gather g l = depth l.wanted

abbrev pub decreases-gather_below : goal.decreases-gather_below
decreases-gather_below g l = 2 * l.height

abbrev pub invariant-gather-loop-k : goal.invariant-gather-loop-k
invariant-gather-loop-k g l =
    record {
      length : l.pages.length ≡ l.initial.pages.length;
      header : l.pages.header ≡ l.initial.pages.header;
      walks : Walks l.section l.entry.first l.bound l.head.level (entries_at l.entries 0 l.count) (entries_at l.entries (16 * l.k) (l.count - l.k)) (g.S.Source.view l.initial.pages.source) l.initial.out.items (g.S.Source.view l.pages.source) l.out.items;
    }

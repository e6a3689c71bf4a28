use Rattle.std.proofs.Common.{◌≡◌, ◌-◌, ◌/◌}
use Rattle.e57_base.specs.Source.{page_length}
use Rattle.e57_nodes.specs.Items.{leaves_of}
use Rattle.e57_check.proofs.Records.{SoFar}
use Rattle.e57_check.proofs.body.judge_records.Given as goal

abbrev pub invariant-loop-at : goal.invariant-loop-at
invariant-loop-at g l =
    SoFar (l.fn.pages.length / page_length) (g.S.Source.view l.fn.pages.source) l.section l.starts l.fn.fixed (leaves_of l.fields) l.passed l.at l.judging.columns.items l.judging.found (g.S.Source.view l.pages.source)
    × (l.pages.length ≡ l.fn.pages.length)
    × (l.pages.header ≡ l.fn.pages.header)

abbrev pub decreases-loop-at : goal.decreases-loop-at
decreases-loop-at g l = l.section.count - l.at

use Rattle.std.proofs.Common.{◌≡◌, ◌+◌, ◌*◌, ◌-◌, ◌/◌, ◌≤◌, length}
use Rattle.e57_base.specs.Source.{page_length}
use Rattle.e57_check.specs.Judging.{ReadsBlock}
use Rattle.e57_check.proofs.block.read_texts.Given as goal

abbrev pub invariant-loop-done : goal.invariant-loop-done
invariant-loop-done g l =
    (l.done ≤ l.n)
    × ReadsBlock (l.fn.pages.length / page_length) (g.S.Source.view l.fn.pages.source) l.fn.column l.at l.done (g.S.Source.view l.pages.source) l.column
    × (l.pages.length ≡ l.fn.pages.length)
    × (l.pages.header ≡ l.fn.pages.header)

abbrev pub decreases-loop-done : goal.decreases-loop-done
decreases-loop-done g l = (l.n - l.done) * 16777217 + (16777216 - length l.block.bytes.items)

use Rattle.std.proofs.Common.{◌≡◌, ◌/◌}
use Rattle.e57_base.specs.Source.{page_length}
use Rattle.e57_check.proofs.Rows.{RowSoFar}
use Rattle.e57_check.proofs.row.read_row.Given as goal

abbrev pub invariant-loop-j : goal.invariant-loop-j
invariant-loop-j g l =
    RowSoFar (l.fn.pages.length / page_length) (g.S.Source.view l.fn.pages.source) l.section l.fn.columns l.at l.n l.j (g.S.Source.view l.pages.source) l.columns
    × (l.pages.length ≡ l.fn.pages.length)
    × (l.pages.header ≡ l.fn.pages.header)

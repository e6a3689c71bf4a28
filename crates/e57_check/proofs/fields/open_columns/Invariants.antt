use Rattle.std.proofs.Common.{◌≡◌, ◌/◌}
use Rattle.e57_base.specs.Source.{page_length}
use Rattle.e57_nodes.specs.Items.{leaves_of}
use Rattle.e57_check.proofs.Openings.{OpensSoFar}
use Rattle.e57_check.proofs.fields.open_columns.Given as goal

abbrev pub invariant-loop-f : goal.invariant-loop-f
invariant-loop-f g l =
    OpensSoFar (l.fn.pages.length / page_length) (g.S.Source.view l.fn.pages.source) l.section l.fixed (leaves_of l.fields) l.f l.columns.items (g.S.Source.view l.pages.source)
    × (l.pages.length ≡ l.fn.pages.length)
    × (l.pages.header ≡ l.fn.pages.header)

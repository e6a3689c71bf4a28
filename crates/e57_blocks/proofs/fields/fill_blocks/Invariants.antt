use Rattle.std.specs.Prelude.{◌≡◌}
use Rattle.e57_blocks.specs.Fields.{slice_at}
use Rattle.e57_blocks.proofs.Sides.{FilledTo}
use Rattle.e57_blocks.proofs.fields.fill_blocks.Given as goal

abbrev pub invariant-loop-j : goal.invariant-loop-j
invariant-loop-j g l = record {
  same_size : l.pages.length ≡ l.fn.pages.length;
  same_header : l.pages.header ≡ l.fn.pages.header;
  filled : FilledTo (slice_at (record { section = l.fn.section; fixed = l.fn.fixed; blocks = l.fn.blocks }) l.i l.want) (g.S.Source.view l.fn.pages.source) l.fn.blocks l.j l.n (g.S.Source.view l.pages.source) l.blocks;
}

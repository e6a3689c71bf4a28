use Rattle.std.specs.Prelude.{ℕ, List, [], Option}
use Rattle.e57_rows.specs.Shown.{as_it_is}
use Rattle.e57_rows.specs.Blocks.{held_rows}
use Rattle.e57_rows.specs.Writing.{AtRow}
use Rattle.e57_rows.proofs.text.write_rows.Given as goal

abbrev pub invariant-loop-k : goal.invariant-loop-k
invariant-loop-k g l = (base : Option (List ℕ)) → AtRow g.W.Write.contents base [] l.fn.writer → AtRow g.W.Write.contents base (held_rows as_it_is l.blocks l.i l.k) l.writer

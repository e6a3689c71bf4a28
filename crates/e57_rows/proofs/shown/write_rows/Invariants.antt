use Rattle.std.specs.Prelude.{ℕ, List, [], Option}
use Rattle.e57_layout.specs.Values.{Value}
use Rattle.e57_rows.specs.Blocks.{held_rows}
use Rattle.e57_rows.specs.Lined.{AreShownBy}
use Rattle.e57_rows.specs.Writing.{AtRow}
use Rattle.e57_rows.proofs.shown.write_rows.Given as goal

abbrev pub invariant-loop-k : goal.invariant-loop-k
invariant-loop-k g l = (show : ℕ → Value → Value) → AreShownBy show l.lines l.blocks → (base : Option (List ℕ)) → AtRow g.W.Write.contents base [] l.fn.writer → AtRow g.W.Write.contents base (held_rows show l.blocks l.i l.k) l.writer

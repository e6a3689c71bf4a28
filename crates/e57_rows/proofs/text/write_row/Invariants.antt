use Rattle.std.specs.Prelude.{ℕ, List, Option, map, take}
use Rattle.csv.specs.Writing.{text_written}
use Rattle.e57_rows.specs.Shown.{as_it_is}
use Rattle.e57_rows.specs.Blocks.{cell_at}
use Rattle.e57_rows.specs.Writing.{AtRow, InRow}
use Rattle.e57_rows.proofs.text.write_row.Given as goal

abbrev pub invariant-loop-j : goal.invariant-loop-j
invariant-loop-j g l = (base : Option (List ℕ)) → (text : List ℕ) → AtRow g.W.Write.contents base text l.fn.writer
    → InRow g.W.Write.contents (text_written g.W.Write.contents l.fn.writer) (map (cell_at as_it_is l.i) (take l.j l.blocks)) l.writer

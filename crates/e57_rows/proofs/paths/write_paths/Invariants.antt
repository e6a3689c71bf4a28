use Rattle.std.specs.Prelude.{ℕ, List, [], Option, map, take}
use Rattle.e57_blocks.specs.Fields.{field_at}
use Rattle.e57_rows.specs.Writing.{AtRow, InRow}
use Rattle.e57_rows.proofs.paths.write_paths.Given as goal

abbrev pub invariant-loop-k : goal.invariant-loop-k
invariant-loop-k g l = (base : Option (List ℕ)) → AtRow g.W.Write.contents base [] l.fn.writer → InRow g.W.Write.contents base (map (λ (f : ℕ). (field_at l.fields f).path) (take l.k l.asked)) l.writer

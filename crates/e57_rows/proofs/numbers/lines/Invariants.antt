use Rattle.std.specs.Prelude.{◌≡◌, take}
use Rattle.e57_rows.specs.Shown.{lines_of}
use Rattle.e57_rows.proofs.numbers.lines.Given as goal

abbrev pub invariant-loop-k : goal.invariant-loop-k
invariant-loop-k l = l.lines.items ≡ lines_of l.numbers l.fields (take l.k l.asked)

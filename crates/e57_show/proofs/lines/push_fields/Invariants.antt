use Rattle.std.proofs.Common.{◌≡◌, ◌++◌, drop}
use Rattle.e57_show.specs.Listing.{field_lines}
use Rattle.e57_show.proofs.lines.push_fields.Given as goal

abbrev pub invariant-loop-j : goal.invariant-loop-j
invariant-loop-j l = l.lines.items ++ field_lines l.j (drop l.j l.fields) ≡ l.initial.lines.items ++ field_lines 0 l.fields

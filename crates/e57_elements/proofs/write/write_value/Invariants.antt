use Rattle.std.proofs.Common.{◌≡◌, ◌++◌, take}
use Rattle.e57_elements.specs.Spelling.{value_byte, written}
use Rattle.e57_elements.proofs.write.write_value.Given as goal

abbrev pub invariant-loop-b : goal.invariant-loop-b
invariant-loop-b l = l.out.items ≡ l.initial.out.items ++ written value_byte (take l.b-index l.value)

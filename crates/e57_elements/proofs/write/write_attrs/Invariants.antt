use Rattle.std.proofs.Common.{◌≡◌, ◌++◌, take}
use Rattle.e57_elements.specs.Spelling.{attrs_spelling}
use Rattle.e57_elements.proofs.write.write_attrs.Given as goal

abbrev pub invariant-loop-i : goal.invariant-loop-i
invariant-loop-i l = l.out.items ≡ l.initial.out.items ++ attrs_spelling (take l.i l.attrs)

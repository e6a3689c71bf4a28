use Rattle.std.proofs.Common.{◌≡◌, drop, map}
use Rattle.e57_select.specs.Asking.{numbers_from}
use Rattle.e57_select.proofs.Looked.{behind_all}
use Rattle.e57_select.proofs.asked.named_numbers.Given as goal

abbrev pub invariant-loop-j : goal.invariant-loop-j
invariant-loop-j l = numbers_from l.fields 0 (map (λ name. name.now) l.names) ≡ behind_all l.numbers.items (numbers_from l.fields l.j (map (λ name. name.now) (drop l.j l.names)))

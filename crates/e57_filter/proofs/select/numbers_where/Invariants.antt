use Rattle.std.proofs.Common.{◌≡◌, ℕ, false, get_or}
use Rattle.std.specs.List.{filter, range_with_len}
use Rattle.e57_filter.proofs.select.numbers_where.Given as goal

abbrev pub invariant-loop-f : goal.invariant-loop-f
invariant-loop-f l = l.numbers.items ≡ filter (λ (f : ℕ). get_or l.chosen f false) (range_with_len 0 l.f)

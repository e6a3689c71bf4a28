use Rattle.std.proofs.Common.{◌<◌, sym, subst, ℕ}
use Rattle.e57_decimal.proofs.Tens.{pow-pos}
use Rattle.e57_decimal.proofs.writing.split_whole.Goals as goal

pub nonzero_div-result : goal.nonzero_div-result
nonzero_div-result c = let P : ℕ → Type 0 = λ p. 0 < p in subst P (sym c.in-Some.ensures.1) (pow-pos c.from.result)

pub nonzero_rem-result : goal.nonzero_rem-result
nonzero_rem-result c = let P : ℕ → Type 0 = λ p. 0 < p in subst P (sym c.in-Some.ensures.1) (pow-pos c.from.result)

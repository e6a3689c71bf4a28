-- One of the truth values is true.
use Rattle.std.proofs.Common.{◌≡◌, ℕ, zero, suc, Bool, true, false, List, [], ◌∷◌, get_or, refl}
use Rattle.e57_plain.specs.Pruned.{keeps_some}

pub any_at : (chosen : List Bool) (i : ℕ) → get_or chosen i false ≡ true → keeps_some chosen ≡ true
any_at [] i here = absurd (cc)
any_at (true ∷ chosen) i here = refl
any_at (false ∷ chosen) zero here = absurd (cc)
any_at (false ∷ chosen) (suc i) here = any_at chosen i here

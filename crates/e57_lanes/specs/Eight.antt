-- Eight items at a time.
use Rattle.std.specs.Prelude.{ℕ, ◌+◌, ◌*◌, ◌%◌, List, [], ◌∷◌}
use Rattle.e57_bits.specs.Bits.{number}

-- the numbers of eight items of w bits, the first at bit t
abbrev pub eight_numbers : List ℕ → ℕ → ℕ → List ℕ
eight_numbers bytes t w =
    number bytes t w ∷ number bytes (t + w) w ∷ number bytes (t + 2 * w) w ∷ number bytes (t + 3 * w) w
    ∷ number bytes (t + 4 * w) w ∷ number bytes (t + 5 * w) w ∷ number bytes (t + 6 * w) w ∷ number bytes (t + 7 * w) w ∷ []

-- the bits of their bytes at which eight items of w bits begin, the first at bit t
abbrev pub first_bits : ℕ → ℕ → List ℕ
first_bits t w =
    t % 8 ∷ (t + w) % 8 ∷ (t + 2 * w) % 8 ∷ (t + 3 * w) % 8
    ∷ (t + 4 * w) % 8 ∷ (t + 5 * w) % 8 ∷ (t + 6 * w) % 8 ∷ (t + 7 * w) % 8 ∷ []

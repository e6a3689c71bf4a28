-- Numbers as bytes, and items of w bits one after another, the least significant first.
use Rattle.std.specs.Prelude.{ℕ, zero, suc, ◌+◌, ◌*◌, ◌/◌, ◌%◌, ◌^◌, List, [], ◌∷◌, length}

-- the lowest k bytes of a number, the lowest first
unfoldable pub low_bytes : ℕ → ℕ → List ℕ
low_bytes zero n = []
low_bytes (suc k) n = n % 256 ∷ low_bytes k (n / 256)

-- items of w bits each as one number, the first item lowest
unfoldable pub joined : ℕ → List ℕ → ℕ
joined w [] = 0
joined w (x ∷ xs) = x + 2 ^ w * joined w xs

-- items of w bits each, filled with zero bits to a whole byte
unfoldable pub packed : ℕ → List ℕ → List ℕ
packed w xs = low_bytes ((w * length xs + 7) / 8) (joined w xs)

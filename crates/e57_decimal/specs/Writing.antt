-- The text of a decimal number.
use Rattle.std.specs.Prelude.{ℕ, zero, suc, ◌+◌, ◌*◌, ◌/◌, ◌%◌, ◌^◌, ◌<◌, nat_lt, ◌==◌, ℤ, pos, negsuc, unsigned_abs, List, [], ◌∷◌, ◌++◌, if◌then◌else◌}
use Rattle.e57_decimal.specs.Fractions.{Fraction}

-- the digits of a number below 10 ^ k, without a leading zero but at least one
unfoldable pub whole_digits : ℕ → ℕ → List ℕ
whole_digits zero n = []
whole_digits (suc k) n = if nat_lt n 10 then (48 + n) ∷ [] else whole_digits k (n / 10) ++ (48 + n % 10) ∷ []

-- the most digits before the point
abbrev pub most_digits : ℕ
most_digits = 128

-- the value has at most so many digits before the point
abbrev pub HasFewDigits : Fraction → Type 0
HasFewDigits x = unsigned_abs x.whole * 10 ^ x.up / 10 ^ x.down < 10 ^ most_digits

-- the digits behind the point of r / 10 ^ k, for r below 10 ^ k: the last isn't 0
unfoldable pub places_of : ℕ → ℕ → List ℕ
places_of zero r = []
places_of (suc k) r = if r == 0 then [] else (48 + r / 10 ^ k) ∷ places_of k (r % 10 ^ k)

-- a point and the digits behind it, if there are any
unfoldable pub point_text : ℕ → ℕ → List ℕ
point_text down r = if r == 0 then [] else 46 ∷ places_of down r

-- the text of n / 10 ^ down
unfoldable pub magnitude_text : ℕ → ℕ → List ℕ
magnitude_text n down = whole_digits most_digits (n / 10 ^ down) ++ point_text down (n % 10 ^ down)

-- `-`, if the number is below 0
abbrev pub sign_text : ℤ → List ℕ
sign_text (pos n) = []
sign_text (negsuc n) = 45 ∷ []

-- the text of a value
unfoldable pub decimal_text : Fraction → List ℕ
decimal_text x = sign_text x.whole ++ magnitude_text (unsigned_abs x.whole * 10 ^ x.up) x.down

-- A decimal text: without white space at its ends an optional sign, digits with at most one point among them, before or
-- after them, and perhaps an exponent.
use Rattle.std.specs.Prelude.{ℕ, ◌+◌, ◌-◌, ◌*◌, nat_le, ◌==◌, Bool, true, false, ◌&&◌, ◌||◌, List, [], ◌∷◌, ◌++◌, length, reverse, Option, Some, None, option_map, IsSomeAnd, if◌then◌else◌}
use Rattle.std.specs.List.{list_all}
use Rattle.e57_decimal.specs.declared.values.Decimal.{Decimal}
use Rattle.e57_decimal.specs.Fractions.{Fraction, IsSame, IsDecimal, signed, fraction_of}

-- space, tab, carriage return, line feed
unfoldable pub is_space : ℕ → Bool
is_space b = b == 0x20 || b == 0x09 || b == 0x0D || b == 0x0A

unfoldable pub is_digit : ℕ → Bool
is_digit b = nat_le 48 b && nat_le b 57

-- the first bytes that pass the test, and what follows them
unfoldable pub run : (ℕ → Bool) → List ℕ → List ℕ
run p [] = []
run p (b ∷ bs) = if p b then b ∷ run p bs else []

unfoldable pub after : (ℕ → Bool) → List ℕ → List ℕ
after p [] = []
after p (b ∷ bs) = if p b then after p bs else b ∷ bs

-- without the white space at both ends
unfoldable pub trimmed : List ℕ → List ℕ
trimmed text = reverse (after is_space (reverse (after is_space text)))

-- the number that digits write behind those of n
unfoldable pub number_after : ℕ → List ℕ → ℕ
number_after n [] = n
number_after n (b ∷ bs) = number_after (n * 10 + (b - 48)) bs

-- whether a `-` stands in front, and what follows a sign
unfoldable pub sign_at : List ℕ → Bool × List ℕ
sign_at [] = (false, [])
sign_at (b ∷ bs) = if b == 45 then (true, bs) else if b == 43 then (false, bs) else (false, b ∷ bs)

-- the digits behind a point, and what follows them
unfoldable pub places_at : List ℕ → List ℕ × List ℕ
places_at [] = ([], [])
places_at (b ∷ bs) = if b == 46 then (run is_digit bs, after is_digit bs) else ([], b ∷ bs)

-- the most digits of an exponent
abbrev pub exponent_digits : ℕ
exponent_digits = 5

-- the number of an exponent without its sign
unfoldable pub power_in : List ℕ → Option ℕ
power_in digits =
    if nat_le 1 (length digits) && (nat_le (length digits) exponent_digits && list_all is_digit digits)
    then Some (number_after 0 digits)
    else None

-- by how many powers of ten a number is raised, and by how many it is lowered: `e` or `E` and a signed number, or
-- nothing
unfoldable pub exponent_in : List ℕ → Option (ℕ × ℕ)
exponent_in [] = Some (0, 0)
exponent_in (b ∷ bs) =
    if b == 101 || b == 69
    then option_map (λ n. if (sign_at bs).0 then (0, n) else (n, 0)) (power_in (sign_at bs).1)
    else None

-- a decimal text by its parts: the digits before and behind the point, and the exponent
pub record Parts : Type 0 where
  pub negative : Bool
  pub whole : List ℕ
  pub places : List ℕ
  pub raised : ℕ
  pub lowered : ℕ

-- the parts behind the sign
unfoldable pub unsigned_in : Bool → List ℕ → Option Parts
unsigned_in negative text =
    let whole = run is_digit text in
    let behind = places_at (after is_digit text) in
    if length whole + length behind.0 == 0 then None
    else
    option_map
    (λ e. record { negative = negative; whole = whole; places = behind.0; raised = e.0; lowered = e.1 })
    (exponent_in behind.1)

unfoldable pub parts_in : List ℕ → Option Parts
parts_in text = unsigned_in (sign_at (trimmed text)).0 (sign_at (trimmed text)).1

-- the value of the parts
unfoldable pub value_of : Parts → Fraction
value_of parts = record {
  whole = signed parts.negative (number_after 0 (parts.whole ++ parts.places));
  up = parts.raised;
  down = length parts.places + parts.lowered;
}

-- the value of a decimal text
unfoldable pub fraction_in : List ℕ → Option Fraction
fraction_in text = option_map value_of (parts_in text)

-- the text is a decimal text of this value
abbrev pub HasValue : List ℕ → Fraction → Type 0
HasValue text x = IsSomeAnd (fraction_in text) (λ y. IsSame y x)

-- what a decimal text is read as: the decimal of its value, if there is one
pub record IsReadAs (text : List ℕ) (d : Decimal) : Type 0 where
  pub kept : IsDecimal d
  pub value : HasValue text (fraction_of d)

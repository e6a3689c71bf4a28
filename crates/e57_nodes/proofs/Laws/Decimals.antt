-- A number written in decimal is read again.
use Rattle.std.proofs.Common.{◌≡◌, ℕ, suc, ◌+◌, ◌*◌, ◌/◌, ◌%◌, ◌^◌, ◌<◌, ◌≤◌, Bool, true, false, cond, ◌&&◌, ◌||◌, eqb, leb, List, [], ◌∷◌, ◌++◌, length, reverse, Some, ℤ, pos, negsuc, neg_ℤ, option_map, refl, ap, ◌∙◌, arith, length-append}
use Rattle.std.proofs.lemmas.List.{reverse-reverse, reverse-append, length-reverse}
use Rattle.std.proofs.lemmas.Str.{digit_value_digit, encode_ascii}
use Rattle.std.proofs.lemmas.Bool.{lt-ltb, le-leb, ne_eqb}
use Rattle.std.proofs.lemmas.Fmt.{decimal_by_steps, length-decimal-le}
use Rattle.std.specs.Fmt.{decimal, signed_decimal}
use Rattle.std.specs.Int.Signed.{mag}
use Rattle.std.specs.List.{AllByRecursion, list_all}
use Rattle.std.specs.Char.{digit_value}
use Rattle.std.specs.Str.{encode_utf8_all}
use Rattle.e57_pieces.specs.Characters.{is_character, AreCharacters}
use Rattle.e57_pieces.proofs.Laws.Characters.{or_left, or_right}
use Rattle.e57_pieces.specs.Words.{is_space, is_decimal, numeral, numeral_from}
use Rattle.e57_nodes.specs.Facts.{without_space, trimmed, when_below, digits_below, signed_from, unsigned_from, signed_in, unsigned_in}
use Rattle.e57_base.proofs.Lists.{all_append}

-- The bytes are decimal digits.
pub record IsDigit (b : ℕ) : Type 0 where
  pub low : 48 ≤ b
  pub high : b ≤ 57

abbrev pub AreDigits : List ℕ → Type 0
AreDigits bytes = AllByRecursion IsDigit bytes

numeral_from-append : (base n : ℕ) (xs ys : List ℕ) → numeral_from base n (xs ++ ys) ≡ numeral_from base (numeral_from base n xs) ys
unfolding numeral_from
numeral_from-append base n [] ys = refl
numeral_from-append base n (x ∷ xs) ys = numeral_from-append base (n * base + digit_value x) xs ys

-- The bytes are the digits of a number.
pub record Writes (n : ℕ) (bytes : List ℕ) : Type 0 where
  pub some : 0 < length bytes
  pub digits : AreDigits bytes
  pub value : numeral 10 bytes ≡ n

one_digit : (n : ℕ) → n < 10 → Writes n ((48 + n) ∷ [])
unfolding numeral_from
one_digit n h =
    let digit : IsDigit (48 + n) = record { low = omega arith; high = omega arith } in
    let v = digit_value_digit (48 + n) (omega arith, omega arith) in
    record { some = omega arith; digits = (digit, tt); value = omega arith }

more_digits : (n : ℕ) (ds : List ℕ) → 10 ≤ n → Writes (n / 10) ds → Writes n (ds ++ ((48 + n % 10) ∷ []))
unfolding numeral_from
more_digits n ds h w =
    let digit : IsDigit (48 + n % 10) = record { low = omega arith; high = omega arith } in
    let v = digit_value_digit (48 + n % 10) (omega arith, omega arith) in
    let e = numeral_from-append 10 0 ds ((48 + n % 10) ∷ []) in
    let k = w.value in
    record {
      some = omega (arith, length-append ds ((48 + n % 10) ∷ []));
      digits = all_append IsDigit ds ((48 + n % 10) ∷ []) w.digits (digit, tt);
      value = e ∙ last (numeral_from 10 0 ds) k v;
    }
  where
    last : (m : ℕ) → m ≡ n / 10 → digit_value (48 + n % 10) + 48 ≡ 48 + n % 10 → m * 10 + digit_value (48 + n % 10) ≡ n
    last m k v = omega arith

pub decimal_writes : (n : ℕ) → n < 2 ^ 64 → Writes n (decimal n)
decimal_writes n h = decimal_by_steps Writes one_digit more_digits n h

-- ---- no white space

digit_plain : (b : ℕ) → IsDigit b → is_space b ≡ false
unfolding is_space
digit_plain b h = spaces (ne_eqb b 0x20 (λ e. absurd (omega arith))) (ne_eqb b 0x09 (λ e. absurd (omega arith))) (ne_eqb b 0x0D (λ e. absurd (omega arith))) (ne_eqb b 0x0A (λ e. absurd (omega arith)))
  where
    spaces : eqb b 0x20 ≡ false → eqb b 0x09 ≡ false → eqb b 0x0D ≡ false → eqb b 0x0A ≡ false → is_space b ≡ false
    spaces e f g h = rw (e, f, g, h) refl

-- The bytes begin and end with no white space.
pub record IsTight (bytes : List ℕ) : Type 0 where
  pub front : without_space bytes ≡ bytes
  pub back : without_space (reverse bytes) ≡ reverse bytes

pub trimmed-tight : (bytes : List ℕ) → IsTight bytes → trimmed bytes ≡ bytes
unfolding trimmed
trimmed-tight bytes h = ap (λ bs. reverse (without_space (reverse bs))) h.front ∙ ap (λ bs. reverse bs) h.back ∙ reverse-reverse bytes

pub begins_plain : (b : ℕ) (bs : List ℕ) → is_space b ≡ false → without_space (b ∷ bs) ≡ b ∷ bs
unfolding without_space
begins_plain b bs e = ap (λ (t : Bool). cond t (without_space bs) (b ∷ bs)) e

all_plain : (bytes : List ℕ) → AreDigits bytes → without_space bytes ≡ bytes
unfolding without_space
all_plain [] h = refl
all_plain (b ∷ bs) h = begins_plain b bs (digit_plain b h.0)

all-reverse : {X : Type 0} (P : X → Type 0) (xs : List X) → AllByRecursion P xs → AllByRecursion P (reverse xs)
all-reverse P [] h = tt
all-reverse P (x ∷ xs) h = rw (reverse-append (x ∷ []) xs) (all_append P (reverse xs) (x ∷ []) (all-reverse P xs h.1) (h.0, tt))

digits_tight : (bytes : List ℕ) → AreDigits bytes → IsTight bytes
digits_tight bytes h = record { front = all_plain bytes h; back = all_plain (reverse bytes) (all-reverse IsDigit bytes h) }

-- ---- read again

digit_decimal : (b : ℕ) → IsDigit b → is_decimal b ≡ true
unfolding is_decimal
digit_decimal b h = rw (le-leb 48 b h.low, le-leb b 57 h.high) refl

digits_decimal : (bytes : List ℕ) → AreDigits bytes → list_all is_decimal bytes ≡ true
digits_decimal [] h = refl
digits_decimal (b ∷ bs) h = rw (digit_decimal b h.0, digits_decimal bs h.1) refl

-- such digits are read again
pub digits_below-writes : (bound n : ℕ) (bytes : List ℕ) → Writes n bytes → length bytes ≤ 64 → n < bound → digits_below bound bytes ≡ Some n
unfolding digits_below when_below
digits_below-writes bound n bytes w few h =
    rw (lt-ltb 0 (length bytes) w.some, le-leb (length bytes) 64 few, digits_decimal bytes w.digits, w.value, lt-ltb n bound h) refl

decimal_short : (n : ℕ) → n < 2 ^ 64 → length (decimal n) ≤ 64
decimal_short n h = let e = length-decimal-le 20 n (omega arith) (omega arith) h in omega arith

unsigned_from-digit : (b : ℕ) (bs : List ℕ) → IsDigit b → unsigned_from (b ∷ bs) ≡ digits_below (2 ^ 64) (b ∷ bs)
unfolding unsigned_from
unsigned_from-digit b bs h = rw (ne_eqb b 43 (λ e. absurd (omega arith))) refl

signed_from-digit : (b : ℕ) (bs : List ℕ) → IsDigit b → signed_from (b ∷ bs) ≡ option_map pos (digits_below (2 ^ 63) (b ∷ bs))
unfolding signed_from
signed_from-digit b bs h = rw (ne_eqb b 45 (λ e. absurd (omega arith)), ne_eqb b 43 (λ e. absurd (omega arith))) refl

signed_from-minus : (bs : List ℕ) → signed_from (45 ∷ bs) ≡ option_map (λ n. neg_ℤ (pos n)) (digits_below (2 ^ 63 + 1) bs)
unfolding signed_from
signed_from-minus bs = refl

unsigned_digits : (n : ℕ) (bytes : List ℕ) → Writes n bytes → length bytes ≤ 64 → n < 2 ^ 64 → unsigned_from bytes ≡ Some n
unsigned_digits n [] w few h = absurd (omega (arith, w.some))
unsigned_digits n (b ∷ bs) w few h = unsigned_from-digit b bs w.digits.0 ∙ digits_below-writes (2 ^ 64) n (b ∷ bs) w few h

signed_digits : (n : ℕ) (bytes : List ℕ) → Writes n bytes → length bytes ≤ 64 → n < 2 ^ 63 → signed_from bytes ≡ Some (pos n)
signed_digits n [] w few h = absurd (omega (arith, w.some))
signed_digits n (b ∷ bs) w few h = signed_from-digit b bs w.digits.0 ∙ ap (λ o. option_map pos o) (digits_below-writes (2 ^ 63) n (b ∷ bs) w few h)

-- a sign before digits
minus_tight : (bytes : List ℕ) {n : ℕ} → Writes n bytes → IsTight (45 ∷ bytes)
unfolding is_space
minus_tight bytes w = record {
  front = begins_plain 45 bytes refl;
  back = rw (reverse-append (45 ∷ []) bytes) (behind (reverse bytes) (all-reverse IsDigit bytes w.digits) some);
}
  where
    some : 0 < length (reverse bytes)
    some = omega (arith, length-reverse bytes, w.some)

    behind : (bs : List ℕ) → AreDigits bs → 0 < length bs → without_space (bs ++ 45 ∷ []) ≡ bs ++ 45 ∷ []
    behind [] h l = absurd (omega arith)
    behind (b ∷ bs) h l = begins_plain b (bs ++ 45 ∷ []) (digit_plain b h.0)

-- An unsigned number in decimal is read again.
pub unsigned_in-decimal : (n : ℕ) → n < 2 ^ 64 → unsigned_in (decimal n) ≡ Some n
unfolding unsigned_in
unsigned_in-decimal n h =
    let w = decimal_writes n h in
    ap (λ t. unsigned_from t) (trimmed-tight (decimal n) (digits_tight (decimal n) w.digits)) ∙ unsigned_digits n (decimal n) w (decimal_short n h) h

-- A signed number in decimal is read again.
pub signed_in-decimal : (z : ℤ) → mag z < 2 ^ 63 → signed_in (signed_decimal z) ≡ Some z
unfolding signed_in
signed_in-decimal (pos n) h =
    let w = decimal_writes n (omega arith) in
    ap (λ t. signed_from t) (trimmed-tight (decimal n) (digits_tight (decimal n) w.digits)) ∙ signed_digits n (decimal n) w (decimal_short n (omega arith)) h
signed_in-decimal (negsuc n) h =
    let w = decimal_writes (suc n) (omega arith) in
    ap (λ t. signed_from t) (trimmed-tight (45 ∷ decimal (suc n)) (minus_tight (decimal (suc n)) w))
    ∙ signed_from-minus (decimal (suc n))
    ∙ ap (λ o. option_map (λ m. neg_ℤ (pos m)) o) (digits_below-writes (2 ^ 63 + 1) (suc n) (decimal (suc n)) w (decimal_short (suc n) (omega arith)) (omega arith))

-- ---- characters

encoded_digit : (b : ℕ) (bs : List ℕ) → IsDigit b → encode_utf8_all (b ∷ bs) ≡ b ∷ encode_utf8_all bs
encoded_digit b bs h = let low : b < 128 = omega (arith, h.high) in ap (λ front. front ++ encode_utf8_all bs) (encode_ascii b low)

character_digit : (b : ℕ) → IsDigit b → is_character b ≡ true
unfolding is_character
character_digit b h =
    or_left (marks || graphic || private) supplementary (or_left (marks || graphic) private (or_right marks graphic (both (le-leb 0x20 b (omega (arith, h.low))) (le-leb b 0xD7FF (omega (arith, h.high))))))
  where
    marks : Bool
    marks = eqb b 0x9 || eqb b 0xA || eqb b 0xD

    graphic : Bool
    graphic = leb 0x20 b && leb b 0xD7FF

    private : Bool
    private = leb 0xE000 b && leb b 0xFFFD

    supplementary : Bool
    supplementary = leb 0x10000 b && leb b 0x10FFFF

    both : {p q : Bool} → p ≡ true → q ≡ true → (p && q) ≡ true
    both e f = rw (e, f) refl

-- Digits are characters.
pub AreCharacters-digits : (bytes : List ℕ) → AreDigits bytes → AreCharacters bytes
AreCharacters-digits bytes h = record { numbers = bytes; each = each bytes h; spelled = spelled bytes h }
  where
    each : (bs : List ℕ) → AreDigits bs → AllByRecursion (λ c. is_character c ≡ true) bs
    each [] h = tt
    each (b ∷ bs) h = (character_digit b h.0, each bs h.1)

    spelled : (bs : List ℕ) → AreDigits bs → encode_utf8_all bs ≡ bs
    spelled [] h = refl
    spelled (b ∷ bs) h = encoded_digit b bs h.0 ∙ ap (λ rest. b ∷ rest) (spelled bs h.1)

-- Laws of items: an item that is written is read again, of every kind.
use Rattle.std.proofs.Common.{◌≡◌, ℕ, zero, suc, ◌+◌, ◌*◌, ◌/◌, ◌%◌, ◌^◌, ◌<◌, ◌≤◌, ◌==◌, ltb, leb, List, [], ◌∷◌, ◌++◌, length, map, drop, get_or, refl, sym, ap, ◌∙◌, arith, length-append, append_assoc, append-nil}
use Rattle.std.specs.Prelude.{ℤ, pos, ◌+ℤ◌, ◌≤ℤ◌, FitsSigned}
use Rattle.std.specs.Int.{int_gap, w64}
use Rattle.std.specs.List.{flat_map}
use Rattle.std.proofs.Math.Nat.{mod-eq_of_lt, le_refl}
use Rattle.std.proofs.lemmas.Bool.{cond_both, ne_eqb, eq-eqb, cond-true, cond-false, le-ltb, lt-ltb, eqb-true, leb-true}
use Rattle.std.proofs.lemmas.List.{take_at, drop_at, length-map, get_or-map}
use Rattle.std.proofs.lemmas.Nat.{mul-le}
use Rattle.std.proofs.Math.IntN.{+ℤ_idr}
use Rattle.e57_bits.specs.Bits.{number}
use Rattle.e57_layout.specs.Bytes.{low_bytes, packed}
use Rattle.e57_layout.specs.Standing.{Stands}
use Rattle.e57_layout.specs.Widths.{width}
use Rattle.e57_layout.specs.Values.{ItemKind, integers, words, strings, Value, whole, word, octets, Outcome, here, short, out_of_range}
use Rattle.e57_layout.specs.Strings.{string_limit, prefix_found, first_prefix, after_prefix, string_found, first_string, string_at, on_string, string_prefix, string_bytes_of}
use Rattle.e57_layout.specs.Items.{bits_at, above, item_at, IsItem, AreItems, stored, octets_of, field_bytes}
use Rattle.e57_layout.proofs.Laws.Numbers.{AreBelow, length-low_bytes, low_bytes-suc, length-packed, packed-item}
use Rattle.e57_layout.proofs.Laws.Standing.{Stands-here, Stands-low_bytes}
use Rattle.e57_layout.proofs.Laws.Widths.{width-holds, gap-back, gap-le, gap-lt}
use Rattle.e57_layout.specs.Values.{IsKind}

-- ---- the items of a list

pub items-at : (kind : ItemKind) (values : List Value) (k : ℕ) (d : Value) → AreItems kind values → k < length values → IsItem kind (get_or values k d)
items-at kind [] k d h g = absurd (omega arith)
items-at kind (v ∷ values) zero d h g = h.0
items-at kind (v ∷ values) (suc k) d h g = items-at kind values k d h.1 (omega arith)

-- ---- items of fixed width

-- what is found where the stream has all bits of the item
pub bits_at-found : (w : ℕ) (found : ℕ → Outcome) (stream : List ℕ) (k : ℕ) → w * k + w ≤ 8 * length stream → bits_at w found stream k ≡ found (number stream (w * k) w)
unfolding bits_at
bits_at-found w found stream k h = cond-false (ltb (8 * length stream) (w * k + w)) (short k) (found (number stream (w * k) w)) (le-ltb (8 * length stream) (w * k + w) h)

-- and where it hasn't
pub bits_at-short : (w : ℕ) (found : ℕ → Outcome) (stream : List ℕ) (k : ℕ) → 8 * length stream < w * k + w → bits_at w found stream k ≡ short k
unfolding bits_at
bits_at-short w found stream k h = cond-true (ltb (8 * length stream) (w * k + w)) (short k) (found (number stream (w * k) w)) (lt-ltb (8 * length stream) (w * k + w) h)

rows : (w k n : ℕ) → k < n → w * k + w ≤ w * n
rows w k n f = let e : w * k + w ≡ w * suc k = grind arith in rw e (mul-le w (suc k) w n (le_refl w) f)

-- ---- what an item is, by kind

-- only one integer is possible
pub item_at-constant : (low high : ℤ) (stream : List ℕ) (k : ℕ) → width low high ≡ 0 → item_at (integers low high) stream k ≡ here (whole low)
unfolding item_at
item_at-constant low high stream k none =
    cond-true (width low high == 0) (here (whole low)) (bits_at (width low high) (above low high k) stream k) (eq-eqb (width low high) 0 none)

pub item_at-integers : (low high : ℤ) (stream : List ℕ) (k : ℕ) → 0 < width low high → item_at (integers low high) stream k ≡ bits_at (width low high) (above low high k) stream k
unfolding item_at
item_at-integers low high stream k some =
    cond-false (width low high == 0) (here (whole low)) (bits_at (width low high) (above low high k) stream k) (ne_eqb (width low high) 0 (λ none. omega arith))

pub item_at-words : (w : ℕ) (stream : List ℕ) (k : ℕ) → item_at (words w) stream k ≡ bits_at w (λ n. here (word n)) stream k
unfolding item_at
item_at-words w stream k = refl

pub item_at-strings : (stream : List ℕ) (k : ℕ) → item_at strings stream k ≡ string_at 0 stream k
unfolding item_at
item_at-strings stream k = refl

-- an integer within its limits, and one above them
pub above-within : (low high : ℤ) (k n : ℕ) → n ≤ int_gap low high → above low high k n ≡ here (whole (low +ℤ pos n))
above-within low high k n h = cond-false (ltb (int_gap low high) n) (out_of_range k) (here (whole (low +ℤ pos n))) (le-ltb (int_gap low high) n h)

pub above-over : (low high : ℤ) (k n : ℕ) → int_gap low high < n → above low high k n ≡ out_of_range k
above-over low high k n h = cond-true (ltb (int_gap low high) n) (out_of_range k) (here (whole (low +ℤ pos n))) (lt-ltb (int_gap low high) n h)

-- item k of packed numbers
pub packed-found : (w : ℕ) (found : ℕ → Outcome) (xs : List ℕ) (k : ℕ) → AreBelow w xs → k < length xs → bits_at w found (packed w xs) k ≡ found (get_or xs k 0)
packed-found w found xs k small h =
    let last : w * k + w ≤ w * length xs = rows w k (length xs) h in
    let room : w * k + w ≤ 8 * length (packed w xs) = rw length-packed (within (w * k + w) (w * length xs) last) in
    bits_at-found w found (packed w xs) k room ∙ ap found (packed-item w xs k small h)
  where
    within : (a b : ℕ) → a ≤ b → a ≤ 8 * ((b + 7) / 8)
    within a b f = omega arith

-- ---- strings

-- a prefix of one byte
one_byte : (n : ℕ) (rest : List ℕ) → n ≤ 127 → first_prefix (low_bytes 1 (2 * n) ++ rest) ≡ prefix_found n rest
unfolding low_bytes first_prefix
one_byte n rest h =
    let byte : 2 * n % 256 ≡ 2 * n = mod-eq_of_lt (omega arith) in
    let even : 2 * n % 2 ≡ 0 = omega arith in
    let half : 2 * n / 2 ≡ n = omega arith in
    rw (byte, even, half, le-ltb string_limit n (omega arith)) refl

-- a prefix of eight bytes
eight : (b : ℕ) (bs rest : List ℕ) (n m : ℕ) → b % 2 ≡ 1 → 7 ≤ length bs → number (b ∷ bs) 0 64 ≡ m → m / 2 ≡ n → n ≤ string_limit → drop 7 bs ≡ rest → first_prefix (b ∷ bs) ≡ prefix_found n rest
unfolding first_prefix
eight b bs rest n m odd long all half h later =
    rw (odd, le-ltb (length bs) 7 long, all, half, le-ltb string_limit n h, later) refl

eight_bytes : (n : ℕ) (rest : List ℕ) → n ≤ string_limit → first_prefix (low_bytes 8 (2 * n + 1) ++ rest) ≡ prefix_found n rest
eight_bytes n rest h =
    let cut : low_bytes 8 (2 * n + 1) ++ rest ≡ (2 * n + 1) % 256 ∷ (low_bytes 7 ((2 * n + 1) / 256) ++ rest) = ap (λ xs. xs ++ rest) (low_bytes-suc 7 (2 * n + 1)) in
    let long : 7 ≤ length (low_bytes 7 ((2 * n + 1) / 256) ++ rest) = rw (length-append, length-low_bytes) (omega arith) in
    let stands : Stands (low_bytes 8 (2 * n + 1) ++ rest) 0 (low_bytes 8 (2 * n + 1)) = Stands-here [] (low_bytes 8 (2 * n + 1)) rest in
    let all : number (low_bytes 8 (2 * n + 1) ++ rest) 0 64 ≡ 2 * n + 1 = Stands-low_bytes (low_bytes 8 (2 * n + 1) ++ rest) 0 8 (2 * n + 1) 0 64 stands (omega arith) refl refl in
    let later : drop 7 (low_bytes 7 ((2 * n + 1) / 256) ++ rest) ≡ rest = drop_at (low_bytes 7 ((2 * n + 1) / 256)) rest 7 (length-low_bytes 7 ((2 * n + 1) / 256)) in
    ap first_prefix cut ∙ eight ((2 * n + 1) % 256) (low_bytes 7 ((2 * n + 1) / 256) ++ rest) rest n (2 * n + 1) (omega arith) long (ap (λ xs. number xs 0 64) (sym cut) ∙ all) (omega arith) h later

-- a prefix and what follows it
pub first_prefix-written : (n : ℕ) (rest : List ℕ) → n ≤ string_limit → first_prefix (string_prefix n ++ rest) ≡ prefix_found n rest
unfolding string_prefix
first_prefix-written n rest h =
    cond_both (leb n 127) (low_bytes 1 (2 * n)) (low_bytes 8 (2 * n + 1)) (λ (prefix : List ℕ). first_prefix (prefix ++ rest) ≡ prefix_found n rest)
    (λ near. one_byte n rest (leb-true n 127 near))
    (λ far. eight_bytes n rest h)

-- a string and what follows it
pub first_string-written : (t rest : List ℕ) → length t ≤ string_limit → first_string (string_bytes_of t ++ rest) ≡ string_found t rest
unfolding first_string string_bytes_of
first_string-written t rest h =
    ap (λ xs. after_prefix (first_prefix xs)) (append_assoc (string_prefix (length t)) t rest)
    ∙ ap after_prefix (first_prefix-written (length t) (t ++ rest) h)
    ∙ cond-false (ltb (length (t ++ rest)) (length t)) _ _ (le-ltb (length (t ++ rest)) (length t) (rw length-append (omega arith)))
    ∙ rw (take_at t rest (length t) refl, drop_at t rest (length t) refl) refl

-- string number k of strings that are written one after another, with what follows them
pub string_at-written : (done : ℕ) (values : List Value) (rest : List ℕ) (k : ℕ) (d : Value) → AreItems strings values → k < length values → string_at done (flat_map (λ value. string_bytes_of (octets_of value)) values ++ rest) k ≡ here (get_or values k d)
unfolding string_at octets_of
string_at-written done [] rest k d h g = absurd (omega arith)
string_at-written done (whole z ∷ values) rest k d h g = absurd h.0
string_at-written done (word n ∷ values) rest k d h g = absurd h.0
string_at-written done (octets t ∷ values) rest zero d h g =
    let later : List ℕ = flat_map (λ value. string_bytes_of (octets_of value)) values ++ rest in
    ap (λ xs. on_string done (λ u more. here (octets u)) (first_string xs)) (append_assoc (string_bytes_of t) _ rest)
    ∙ ap (on_string done (λ u more. here (octets u))) (first_string-written t _ h.0)
string_at-written done (octets t ∷ values) rest (suc k) d h g =
    ap (λ xs. on_string done (λ u more. string_at (done + 1) more k) (first_string xs)) (append_assoc (string_bytes_of t) _ rest)
    ∙ ap (on_string done (λ u more. string_at (done + 1) more k)) (first_string-written t _ h.0)
    ∙ string_at-written (done + 1) values rest k d h.1 (omega arith)

-- limits of 64 bits
pub IsKind-fits : (low high : ℤ) → FitsSigned w64 low → FitsSigned w64 high → low ≤ℤ high → IsKind (integers low high)
IsKind-fits low high h g l = (l, gap-lt low high h g)

-- integers as numbers
pub stored-below : (low high : ℤ) (values : List Value) → int_gap low high < 2 ^ 64 → AreItems (integers low high) values → AreBelow (width low high) (map (stored low) values)
unfolding stored
stored-below low high [] h g = tt
stored-below low high (whole z ∷ values) h g =
    let wide : int_gap low high < 2 ^ width low high = width-holds low high h in
    let within : int_gap low z ≤ int_gap low high = gap-le low z high g.0.0 g.0.1 in
    (omega arith, stored-below low high values h g.1)
stored-below low high (word n ∷ values) h g = absurd g.0
stored-below low high (octets t ∷ values) h g = absurd g.0

-- words as numbers
pub words-below : (w : ℕ) (values : List Value) → AreItems (words w) values → AreBelow w (map (stored (pos 0)) values)
unfolding stored
words-below w [] g = tt
words-below w (whole z ∷ values) g = absurd g.0
words-below w (word n ∷ values) g = (g.0, words-below w values g.1)
words-below w (octets t ∷ values) g = absurd g.0

-- an integer that is stored is found again
above-stored : (low high : ℤ) (k : ℕ) (v : Value) → IsItem (integers low high) v → above low high k (stored low v) ≡ here v
unfolding stored
above-stored low high k (whole z) g =
    let within : int_gap low z ≤ int_gap low high = gap-le low z high g.0 g.1 in
    cond-false (ltb (int_gap low high) (int_gap low z)) (out_of_range k) (here (whole (low +ℤ pos (int_gap low z)))) (le-ltb (int_gap low high) (int_gap low z) within)
    ∙ ap (λ y. here (whole y)) (gap-back low z g.0)
above-stored low high k (word n) g = absurd g
above-stored low high k (octets t) g = absurd g

-- only one integer is possible
single : (low high : ℤ) (v : Value) → int_gap low high < 2 ^ 64 → width low high ≡ 0 → IsItem (integers low high) v → whole low ≡ v
single low high (whole z) h none g =
    let wide : int_gap low high < 2 ^ width low high = width-holds low high h in
    let alone : 2 ^ width low high ≡ 1 = rw none refl in
    let within : int_gap low z ≤ int_gap low high = gap-le low z high g.0 g.1 in
    let same : int_gap low z ≡ 0 = omega arith in
    ap whole (sym (+ℤ_idr low) ∙ ap (λ n. low +ℤ pos n) (sym same) ∙ gap-back low z g.0)
single low high (word n) h none g = absurd g
single low high (octets t) h none g = absurd g

word-stored : (w : ℕ) (v : Value) → IsItem (words w) v → word (stored (pos 0) v) ≡ v
unfolding stored
word-stored w (whole z) g = absurd g
word-stored w (word n) g = refl
word-stored w (octets t) g = absurd g

-- item k of a field's bytes is value k
pub field_bytes-item : (kind : ItemKind) (values : List Value) (k : ℕ) (d : Value) → IsKind kind → AreItems kind values → k < length values → item_at kind (field_bytes kind values) k ≡ here (get_or values k d)
unfolding item_at field_bytes
field_bytes-item (integers low high) values k d ok h g =
    let item : IsItem (integers low high) (get_or values k d) = items-at (integers low high) values k d h g in
    let many : k < length (map (stored low) values) = rw length-map g in
    let number_k : get_or (map (stored low) values) k 0 ≡ stored low (get_or values k d) = get_or-map (stored low) values k d 0 g in
    cond_both (width low high == 0) (here (whole low)) (bits_at (width low high) (above low high k) (packed (width low high) (map (stored low) values)) k) (λ (found : Outcome). found ≡ here (get_or values k d))
    (λ none. ap here (single low high (get_or values k d) ok.1 (eqb-true (width low high) 0 none) item))
    (λ some. packed-found (width low high) (above low high k) (map (stored low) values) k (stored-below low high values ok.1 h) many ∙ ap (above low high k) number_k ∙ above-stored low high k (get_or values k d) item)
field_bytes-item (words w) values k d ok h g =
    let item : IsItem (words w) (get_or values k d) = items-at (words w) values k d h g in
    let many : k < length (map (stored (pos 0)) values) = rw length-map g in
    let number_k : get_or (map (stored (pos 0)) values) k 0 ≡ stored (pos 0) (get_or values k d) = get_or-map (stored (pos 0)) values k d 0 g in
    packed-found w (λ n. here (word n)) (map (stored (pos 0)) values) k (words-below w values h) many ∙ ap (λ n. here (word n)) number_k ∙ ap here (word-stored w (get_or values k d) item)
field_bytes-item strings values k d ok h g =
    ap (λ xs. string_at 0 xs k) (sym (append-nil (flat_map (λ value. string_bytes_of (octets_of value)) values))) ∙ string_at-written 0 values [] k d h g

-- ---- whole words

-- a stream has as many words as whole groups of 4 or 8 bytes
pub words_32-here : (stream : List ℕ) (k : ℕ) → k < length stream / 4 → item_at (words 32) stream k ≡ here (word (number stream (32 * k) 32))
words_32-here stream k h = item_at-words 32 stream k ∙ bits_at-found 32 (λ n. here (word n)) stream k (omega arith)

pub words_32-short : (stream : List ℕ) (k : ℕ) → length stream / 4 ≤ k → item_at (words 32) stream k ≡ short k
words_32-short stream k h = item_at-words 32 stream k ∙ bits_at-short 32 (λ n. here (word n)) stream k (omega arith)

pub words_64-here : (stream : List ℕ) (k : ℕ) → k < length stream / 8 → item_at (words 64) stream k ≡ here (word (number stream (64 * k) 64))
words_64-here stream k h = item_at-words 64 stream k ∙ bits_at-found 64 (λ n. here (word n)) stream k (omega arith)

pub words_64-short : (stream : List ℕ) (k : ℕ) → length stream / 8 ≤ k → item_at (words 64) stream k ≡ short k
words_64-short stream k h = item_at-words 64 stream k ∙ bits_at-short 64 (λ n. here (word n)) stream k (omega arith)

-- a field of words has the bytes of its words
pub length-words : (n : ℕ) (values : List Value) → length (field_bytes (words (8 * n)) values) ≡ n * length values
unfolding field_bytes
length-words n values =
    rw (length-packed, length-map) (whole_bytes (n * length values) (8 * n * length values) (grind arith))
  where
    whole_bytes : (m t : ℕ) → t ≡ 8 * m → (t + 7) / 8 ≡ m
    whole_bytes m t e = omega arith

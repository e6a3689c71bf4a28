-- Laws of what is found in a stream: it is an item of the kind, more bytes change nothing of it, and the length of a
-- string is found wherever the string is.
use Rattle.std.proofs.Common.{◌≡◌, ℕ, zero, suc, ◌+◌, ◌*◌, ◌/◌, ◌%◌, ◌^◌, ◌<◌, ◌≤◌, ◌==◌, Bool, true, false, cond, ltb, List, [], ◌∷◌, ◌++◌, length, take, drop, refl, sym, ap, ◌∙◌, arith, length-append, length-take, inl, inr, ◌⊎◌, ⊎_elim}
use Rattle.std.specs.Prelude.{pos, ◌+ℤ◌}
use Rattle.std.specs.Int.{int_gap}
use Rattle.std.specs.Int.Signed.{≤ℤ_refl}
use Rattle.std.proofs.lemmas.Bool.{cond_both, ltb-false, le-ltb, lt-ltb, cases_lt}
use Rattle.std.proofs.lemmas.List.{take-append-le, drop-append-le, take_at}
use Rattle.e57_bits.specs.Bits.{number}
use Rattle.e57_bits.proofs.BitLaws.{number-lt, number-take}
use Rattle.e57_layout.specs.Widths.{width}
use Rattle.e57_layout.specs.Values.{ItemKind, integers, words, strings, Value, whole, word, octets, Outcome, here, short, over_limit, out_of_range, IsKind}
use Rattle.e57_layout.specs.Strings.{string_limit, PrefixRead, prefix_found, prefix_too_long, prefix_cut_off, within_limit, first_prefix, StringRead, string_found, string_too_long, string_cut_off, after_prefix, first_string, on_string, string_at, on_prefix, string_length_at}
use Rattle.e57_layout.specs.Items.{bits_at, above, item_at, IsItem}
use Rattle.e57_layout.proofs.Laws.Items.{bits_at-found, bits_at-short}
use Rattle.e57_layout.proofs.Laws.Widths.{gap-above}

-- what is found, if it is an item
abbrev pub IfHere : (Value → Type 0) → Outcome → Type 0
IfHere P (here v) = P v
IfHere P (short k) = Unit {0}
IfHere P (over_limit k) = Unit {0}
IfHere P (out_of_range k) = Unit {0}

-- ---- an item that is found is an item of the kind

-- the length of a prefix is within the limit
abbrev WithinLimit : PrefixRead → Type 0
WithinLimit (prefix_found n rest) = n ≤ string_limit
WithinLimit prefix_too_long = Unit {0}
WithinLimit prefix_cut_off = Unit {0}

limited-within : (n : ℕ) (rest : List ℕ) → WithinLimit (within_limit n rest)
limited-within n rest =
    cond_both (ltb string_limit n) prefix_too_long (prefix_found n rest) WithinLimit (λ far. tt) (λ near. ltb-false string_limit n near)

pub first_prefix-within : (stream : List ℕ) → WithinLimit (first_prefix stream)
unfolding first_prefix
first_prefix-within [] = tt
first_prefix-within (b ∷ bs) =
    cond_both (b % 2 == 0) (within_limit (b / 2) bs) (cond (ltb (length bs) 7) prefix_cut_off (within_limit (number (b ∷ bs) 0 64 / 2) (drop 7 bs))) WithinLimit
    (λ even. limited-within (b / 2) bs)
    (λ odd. cond_both (ltb (length bs) 7) prefix_cut_off (within_limit (number (b ∷ bs) 0 64 / 2) (drop 7 bs)) WithinLimit
    (λ cut. tt)
    (λ all. limited-within (number (b ∷ bs) 0 64 / 2) (drop 7 bs)))

abbrev IsShortString : StringRead → Type 0
IsShortString (string_found t rest) = length t ≤ string_limit
IsShortString string_too_long = Unit {0}
IsShortString string_cut_off = Unit {0}

after_prefix-short : (p : PrefixRead) → WithinLimit p → IsShortString (after_prefix p)
after_prefix-short (prefix_found n rest) h =
    cond_both (ltb (length rest) n) string_cut_off (string_found (take n rest) (drop n rest)) IsShortString
    (λ cut. tt)
    (λ all. rw length-take (omega arith))
after_prefix-short prefix_too_long h = tt
after_prefix-short prefix_cut_off h = tt

-- a string that is found is within the limit
pub first_string-within : (stream : List ℕ) → IsShortString (first_string stream)
unfolding first_string
first_string-within stream = after_prefix-short (first_prefix stream) (first_prefix-within stream)

string_at-item : (done : ℕ) (stream : List ℕ) (k : ℕ) → IfHere (IsItem strings) (string_at done stream k)
unfolding string_at
string_at-item done stream zero = found (first_string stream) (first_string-within stream)
  where
    found : (s : StringRead) → IsShortString s → IfHere (IsItem strings) (on_string done (λ t rest. here (octets t)) s)
    found (string_found t rest) h = h
    found string_too_long h = tt
    found string_cut_off h = tt
string_at-item done stream (suc k) = later (λ rest. string_at-item (done + 1) rest k) (first_string stream)
  where
    later : ((rest : List ℕ) → IfHere (IsItem strings) (string_at (done + 1) rest k)) → (s : StringRead) → IfHere (IsItem strings) (on_string done (λ t rest. string_at (done + 1) rest k) s)
    later each (string_found t rest) = each rest
    later each string_too_long = tt
    later each string_cut_off = tt

-- what holds of what is made of each number of w bits
bits_at-all : (w : ℕ) (found : ℕ → Outcome) (stream : List ℕ) (k : ℕ) (P : Value → Type 0) → ((n : ℕ) → n < 2 ^ w → IfHere P (found n)) → IfHere P (bits_at w found stream k)
unfolding bits_at
bits_at-all w found stream k P each =
    cond_both (ltb (8 * length stream) (w * k + w)) (short k) (found (number stream (w * k) w)) (IfHere P) (λ cut. tt) (λ all. each (number stream (w * k) w) (number-lt stream (w * k) w))

-- an item that is found is an item of the kind
pub item_at-item : (kind : ItemKind) (stream : List ℕ) (k : ℕ) → IsKind kind → IfHere (IsItem kind) (item_at kind stream k)
unfolding item_at
item_at-item (integers low high) stream k ok =
    cond_both (width low high == 0) (here (whole low)) (bits_at (width low high) (above low high k) stream k) (IfHere (IsItem (integers low high)))
    (λ none. (≤ℤ_refl low, ok.0))
    (λ some. bits_at-all (width low high) (above low high k) stream k (IsItem (integers low high)) (λ n small.
    cond_both (ltb (int_gap low high) n) (out_of_range k) (here (whole (low +ℤ pos n))) (IfHere (IsItem (integers low high))) (λ far. tt) (λ near. gap-above low high n ok.0 (ltb-false (int_gap low high) n near))))
item_at-item (words w) stream k ok = bits_at-all w (λ n. here (word n)) stream k (IsItem (words w)) (λ n small. small)
item_at-item strings stream k ok = string_at-item 0 stream k

-- ---- the length of a string

-- What a string's length is where this is found of the string: its own length; the same fault; or, where the stream ends
-- within the string, what its prefix states or the same fault.
abbrev pub Measures : Outcome → Outcome → Type 0
Measures (here (octets t)) measured = measured ≡ here (word (length t))
Measures (here (whole z)) measured = ⊥
Measures (here (word n)) measured = ⊥
Measures (over_limit j) measured = measured ≡ over_limit j
Measures (out_of_range j) measured = ⊥
Measures (short j) measured = (measured ≡ short j) ⊎ ((n : ℕ) × (measured ≡ here (word n)))

first_measure : (done : ℕ) (p : PrefixRead) → Measures (on_string done (λ t rest. here (octets t)) (after_prefix p)) (on_prefix done p)
first_measure done (prefix_found n rest) =
    cond_both (ltb (length rest) n) string_cut_off (string_found (take n rest) (drop n rest)) (λ (s : StringRead). Measures (on_string done (λ t later. here (octets t)) s) (here (word n)))
    (λ cut. inr (n, refl))
    (λ all.
    let near : n ≤ length rest = ltb-false (length rest) n all in
    let size : length (take n rest) ≡ n = rw length-take (omega arith) in
    ap (λ m. here (word m)) (sym size))
first_measure done prefix_too_long = refl
first_measure done prefix_cut_off = inl refl

-- the length of a string agrees with the string
pub string_length-measures : (done : ℕ) (stream : List ℕ) (k : ℕ) → Measures (string_at done stream k) (string_length_at done stream k)
unfolding string_at string_length_at first_string
string_length-measures done stream zero = first_measure done (first_prefix stream)
string_length-measures done stream (suc k) = later (λ rest. string_length-measures (done + 1) rest k) (first_string stream)
  where
    later : ((rest : List ℕ) → Measures (string_at (done + 1) rest k) (string_length_at (done + 1) rest k)) → (s : StringRead) → Measures (on_string done (λ t rest. string_at (done + 1) rest k) s) (on_string done (λ t rest. string_length_at (done + 1) rest k) s)
    later each (string_found t rest) = each rest
    later each string_too_long = refl
    later each string_cut_off = inl refl

-- ---- more bytes

-- what is found stays, unless the stream was too short for it
abbrev pub Stays : Outcome → Outcome → Type 0
Stays (here v) later = later ≡ here v
Stays (short k) later = Unit {0}
Stays (over_limit k) later = later ≡ over_limit k
Stays (out_of_range k) later = later ≡ out_of_range k

stays-same : (a : Outcome) → Stays a a
stays-same (here v) = refl
stays-same (short k) = tt
stays-same (over_limit k) = refl
stays-same (out_of_range k) = refl

still_within : (n : ℕ) (xs ys : List ℕ) → n ≤ length xs → n ≤ length (xs ++ ys)
still_within n xs ys h = rw length-append (omega arith)

more_bits : (n : ℕ) (xs ys : List ℕ) → n ≤ 8 * length xs → n ≤ 8 * length (xs ++ ys)
more_bits n xs ys h = rw length-append (omega arith)

bits_at-stays : (w : ℕ) (found : ℕ → Outcome) (stream more : List ℕ) (k : ℕ) → Stays (bits_at w found stream k) (bits_at w found (stream ++ more) k)
bits_at-stays w found stream more k = ⊎_elim
    (λ cut. rw (bits_at-short w found stream k cut) tt)
    (λ all.
    let front : take (length stream) (stream ++ more) ≡ stream = take_at stream more (length stream) refl in
    let longer : w * k + w ≤ 8 * length (stream ++ more) = more_bits (w * k + w) stream more all in
    let same : number (stream ++ more) (w * k) w ≡ number stream (w * k) w = sym (number-take (stream ++ more) (length stream) (w * k) w all) ∙ ap (λ xs. number xs (w * k) w) front in
    rw (bits_at-found w found stream k all, bits_at-found w found (stream ++ more) k longer, same) (stays-same (found (number stream (w * k) w))))
    (cases_lt (8 * length stream) (w * k + w))

-- a prefix or string that is found, with more bytes after it
abbrev pub PrefixStays : List ℕ → PrefixRead → PrefixRead → Type 0
PrefixStays more (prefix_found n rest) later = later ≡ prefix_found n (rest ++ more)
PrefixStays more prefix_too_long later = later ≡ prefix_too_long
PrefixStays more prefix_cut_off later = Unit {0}

abbrev pub StringStays : List ℕ → StringRead → StringRead → Type 0
StringStays more (string_found t rest) later = later ≡ string_found t (rest ++ more)
StringStays more string_too_long later = later ≡ string_too_long
StringStays more string_cut_off later = Unit {0}

limited-stays : (n : ℕ) (rest more : List ℕ) → PrefixStays more (within_limit n rest) (within_limit n (rest ++ more))
limited-stays n rest more = chosen (ltb string_limit n)
  where
    chosen : (b : Bool) → PrefixStays more (cond b prefix_too_long (prefix_found n rest)) (cond b prefix_too_long (prefix_found n (rest ++ more)))
    chosen true = refl
    chosen false = refl

pub first_prefix-stays : (stream more : List ℕ) → PrefixStays more (first_prefix stream) (first_prefix (stream ++ more))
unfolding first_prefix
first_prefix-stays [] more = tt
first_prefix-stays (b ∷ bs) more = chosen (b % 2 == 0)
  where
    eight : PrefixStays more (cond (ltb (length bs) 7) prefix_cut_off (within_limit (number (b ∷ bs) 0 64 / 2) (drop 7 bs))) (cond (ltb (length (bs ++ more)) 7) prefix_cut_off (within_limit (number (b ∷ (bs ++ more)) 0 64 / 2) (drop 7 (bs ++ more))))
    eight = ⊎_elim
        (λ cut. rw (lt-ltb (length bs) 7 cut) tt)
        (λ all.
        let longer : 7 ≤ length (bs ++ more) = still_within 7 bs more all in
        let front : take (length (b ∷ bs)) ((b ∷ bs) ++ more) ≡ b ∷ bs = take_at (b ∷ bs) more (length (b ∷ bs)) refl in
        let same : number ((b ∷ bs) ++ more) 0 64 ≡ number (b ∷ bs) 0 64 = sym (number-take ((b ∷ bs) ++ more) (length (b ∷ bs)) 0 64 (omega arith)) ∙ ap (λ xs. number xs 0 64) front in
        let later : drop 7 (bs ++ more) ≡ drop 7 bs ++ more = drop-append-le 7 bs more all in
        rw (le-ltb (length bs) 7 all, le-ltb (length (bs ++ more)) 7 longer, same, later) (limited-stays (number (b ∷ bs) 0 64 / 2) (drop 7 bs) more))
        (cases_lt (length bs) 7)

    chosen : (even : Bool) → PrefixStays more (cond even (within_limit (b / 2) bs) (cond (ltb (length bs) 7) prefix_cut_off (within_limit (number (b ∷ bs) 0 64 / 2) (drop 7 bs)))) (cond even (within_limit (b / 2) (bs ++ more)) (cond (ltb (length (bs ++ more)) 7) prefix_cut_off (within_limit (number (b ∷ (bs ++ more)) 0 64 / 2) (drop 7 (bs ++ more)))))
    chosen true = limited-stays (b / 2) bs more
    chosen false = eight

after_prefix-stays : (more : List ℕ) (p later : PrefixRead) → PrefixStays more p later → StringStays more (after_prefix p) (after_prefix later)
after_prefix-stays more (prefix_found n rest) later h = ⊎_elim
    (λ cut. rw (lt-ltb (length rest) n cut) tt)
    (λ all.
    let longer : n ≤ length (rest ++ more) = still_within n rest more all in
    rw (h, le-ltb (length rest) n all, le-ltb (length (rest ++ more)) n longer, take-append-le n rest more all, drop-append-le n rest more all) refl)
    (cases_lt (length rest) n)
after_prefix-stays more prefix_too_long later h = rw h refl
after_prefix-stays more prefix_cut_off later h = tt

pub first_string-stays : (stream more : List ℕ) → StringStays more (first_string stream) (first_string (stream ++ more))
unfolding first_string
first_string-stays stream more = after_prefix-stays more (first_prefix stream) (first_prefix (stream ++ more)) (first_prefix-stays stream more)

string_at-stays : (done : ℕ) (stream more : List ℕ) (k : ℕ) → Stays (string_at done stream k) (string_at done (stream ++ more) k)
unfolding string_at
string_at-stays done stream more zero = chosen (first_string stream) (first_string (stream ++ more)) (first_string-stays stream more)
  where
    chosen : (s later : StringRead) → StringStays more s later → Stays (on_string done (λ t rest. here (octets t)) s) (on_string done (λ t rest. here (octets t)) later)
    chosen (string_found t rest) later h = rw h refl
    chosen string_too_long later h = rw h refl
    chosen string_cut_off later h = tt
string_at-stays done stream more (suc k) = chosen (λ rest. string_at-stays (done + 1) rest more k) (first_string stream) (first_string (stream ++ more)) (first_string-stays stream more)
  where
    chosen : ((rest : List ℕ) → Stays (string_at (done + 1) rest k) (string_at (done + 1) (rest ++ more) k)) → (s later : StringRead) → StringStays more s later → Stays (on_string done (λ t rest. string_at (done + 1) rest k) s) (on_string done (λ t rest. string_at (done + 1) rest k) later)
    chosen each (string_found t rest) later h = rw h (each rest)
    chosen each string_too_long later h = rw h refl
    chosen each string_cut_off later h = tt

-- an item that is found, or is at fault but for want of bytes, is the same in a longer stream
pub item_at-stays : (kind : ItemKind) (stream more : List ℕ) (k : ℕ) → Stays (item_at kind stream k) (item_at kind (stream ++ more) k)
unfolding item_at
item_at-stays (integers low high) stream more k = chosen (width low high == 0)
  where
    chosen : (b : Bool) → Stays (cond b (here (whole low)) (bits_at (width low high) (above low high k) stream k)) (cond b (here (whole low)) (bits_at (width low high) (above low high k) (stream ++ more) k))
    chosen true = refl
    chosen false = bits_at-stays (width low high) (above low high k) stream more k
item_at-stays (words w) stream more k = bits_at-stays w (λ n. here (word n)) stream more k
item_at-stays strings stream more k = string_at-stays 0 stream more k

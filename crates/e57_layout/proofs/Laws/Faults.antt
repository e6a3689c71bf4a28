-- Laws of faults of items: the item that a fault names is the first one at fault of strings, and each later one names it
-- too; a stream that is too short for an item is too short for each later one.
use Rattle.std.proofs.Common.{◌≡◌, ℕ, zero, suc, ◌+◌, ◌-◌, ◌*◌, ◌<◌, ◌≤◌, ◌==◌, Bool, true, false, cond, ltb, List, length, Option, Some, None, refl, sym, ap, ◌∙◌, arith, ⊎_elim}
use Rattle.std.specs.Prelude.{ℤ, ◌+ℤ◌, pos}
use Rattle.std.specs.Int.{int_gap}
use Rattle.std.proofs.Math.Nat.{le_refl}
use Rattle.std.proofs.lemmas.Nat.{mul-le}
use Rattle.std.proofs.lemmas.Bool.{cases_lt}
use Rattle.e57_bits.specs.Bits.{number}
use Rattle.e57_layout.specs.Widths.{width}
use Rattle.e57_layout.specs.Values.{ItemKind, integers, words, strings, whole, word, octets, Outcome, here, short, over_limit, out_of_range}
use Rattle.e57_layout.specs.Strings.{StringRead, string_found, string_too_long, string_cut_off, first_string, on_string, string_at}
use Rattle.e57_layout.specs.Items.{bits_at, above, item_at}
use Rattle.e57_layout.proofs.Laws.Items.{bits_at-found, bits_at-short}
use Rattle.e57_layout.proofs.Laws.Strings.{string_at-zero, string_at-suc}

-- the item that a fault names
abbrev pub fault_number : Outcome → Option ℕ
fault_number (here v) = None
fault_number (short k) = Some k
fault_number (over_limit k) = Some k
fault_number (out_of_range k) = Some k

-- ---- strings

-- a fault names a string from `done` on
on_string-number : (done j : ℕ) (found : List ℕ → List ℕ → Outcome) (s : StringRead) → ((t rest : List ℕ) → fault_number (found t rest) ≡ Some j → done ≤ j) → fault_number (on_string done found s) ≡ Some j → done ≤ j
on_string-number done j found (string_found t rest) each h = each t rest h
on_string-number done j found string_too_long each h = let e : done ≡ j = cc in omega arith
on_string-number done j found string_cut_off each h = let e : done ≡ j = cc in omega arith

string_at-from : (done : ℕ) (stream : List ℕ) (k j : ℕ) → fault_number (string_at done stream k) ≡ Some j → done ≤ j
unfolding string_at
string_at-from done stream zero j h = on_string-number done j (λ t rest. here (octets t)) (first_string stream) (λ t rest no_fault. cc) h
string_at-from done stream (suc k) j h =
    on_string-number done j (λ t rest. string_at (done + 1) rest k) (first_string stream)
    (λ t rest at_fault. let later : done + 1 ≤ j = string_at-from (done + 1) rest k j at_fault in omega arith) h

-- a string at fault stands in the way of each later one
pub string_at-later : (done : ℕ) (stream : List ℕ) (k m j : ℕ) → k ≤ m → fault_number (string_at done stream k) ≡ Some j → string_at done stream m ≡ string_at done stream k
unfolding string_at
string_at-later done stream zero zero j l h = refl
string_at-later done stream zero (suc m) j l h = stopped (first_string stream) h
  where
    stopped : (s : StringRead) → fault_number (on_string done (λ t rest. here (octets t)) s) ≡ Some j → on_string done (λ t rest. string_at (done + 1) rest m) s ≡ on_string done (λ t rest. here (octets t)) s
    stopped (string_found t rest) g = cc
    stopped string_too_long g = refl
    stopped string_cut_off g = refl
string_at-later done stream (suc k) zero j l h = absurd (omega arith)
string_at-later done stream (suc k) (suc m) j l h = onward (λ rest g. string_at-later (done + 1) rest k m j (omega arith) g) (first_string stream) h
  where
    onward : ((rest : List ℕ) → fault_number (string_at (done + 1) rest k) ≡ Some j → string_at (done + 1) rest m ≡ string_at (done + 1) rest k) → (s : StringRead) → fault_number (on_string done (λ t rest. string_at (done + 1) rest k) s) ≡ Some j → on_string done (λ t rest. string_at (done + 1) rest m) s ≡ on_string done (λ t rest. string_at (done + 1) rest k) s
    onward each (string_found t rest) g = each rest g
    onward each string_too_long g = refl
    onward each string_cut_off g = refl

-- the string that is named is at or before the one that was looked for, and has this fault itself
pub string_at-named : (done : ℕ) (stream : List ℕ) (k j : ℕ) → fault_number (string_at done stream k) ≡ Some j → (done ≤ j) × (j ≤ done + k) × (string_at done stream (j - done) ≡ string_at done stream k)
unfolding string_at
string_at-named done stream zero j h = itself (first_string stream) refl h
  where
    here_zero : (m : ℕ) → done ≡ m → (done ≤ m) × (m ≤ done + 0) × (string_at done stream (m - done) ≡ string_at done stream 0)
    here_zero m e = let none : m - done ≡ 0 = omega arith in (omega arith, omega arith, ap (string_at done stream) none)

    itself : (s : StringRead) → first_string stream ≡ s → fault_number (on_string done (λ t rest. here (octets t)) s) ≡ Some j → (done ≤ j) × (j ≤ done + 0) × (string_at done stream (j - done) ≡ string_at done stream 0)
    itself (string_found t rest) e g = cc
    itself string_too_long e g = here_zero j cc
    itself string_cut_off e g = here_zero j cc
string_at-named done stream (suc k) j h = onward (λ rest g. string_at-named (done + 1) rest k j g) (first_string stream) refl h
  where
    itself : (found : Outcome) (m : ℕ) → done ≡ m → string_at done stream 0 ≡ found → (done ≤ m) × (m ≤ done + suc k) × (string_at done stream (m - done) ≡ found)
    itself found m e g = let none : m - done ≡ 0 = omega arith in (omega arith, omega arith, ap (string_at done stream) none ∙ g)

    onward : ((rest : List ℕ) → fault_number (string_at (done + 1) rest k) ≡ Some j → (done + 1 ≤ j) × (j ≤ done + 1 + k) × (string_at (done + 1) rest (j - (done + 1)) ≡ string_at (done + 1) rest k))
        → (s : StringRead) → first_string stream ≡ s → fault_number (on_string done (λ t rest. string_at (done + 1) rest k) s) ≡ Some j
        → (done ≤ j) × (j ≤ done + suc k) × (string_at done stream (j - done) ≡ on_string done (λ t rest. string_at (done + 1) rest k) s)
    onward each (string_found t rest) e g =
        let later = each rest g in
        let next : j - done ≡ suc (j - (done + 1)) = omega arith in
        let same : string_at done stream (suc (j - (done + 1))) ≡ string_at (done + 1) rest (j - (done + 1)) = string_at-suc done stream (j - (done + 1)) ∙ ap (on_string done (λ u more. string_at (done + 1) more (j - (done + 1)))) e in
        (omega arith, omega arith, ap (string_at done stream) next ∙ same ∙ later.2)
    onward each string_too_long e g = itself (over_limit done) j (cc) (string_at-zero done stream ∙ ap (on_string done (λ t rest. here (octets t))) e)
    onward each string_cut_off e g = itself (short done) j (cc) (string_at-zero done stream ∙ ap (on_string done (λ t rest. here (octets t))) e)

-- ---- items of every kind

-- what is found at item k of fixed width names item k
bits_at-named : (w : ℕ) (found : ℕ → Outcome) (stream : List ℕ) (k j : ℕ) → ((n : ℕ) → fault_number (found n) ≡ Some j → j ≡ k) → fault_number (bits_at w found stream k) ≡ Some j → j ≡ k
bits_at-named w found stream k j each h = ⊎_elim
    (λ cut. let e : Some k ≡ Some j = ap fault_number (sym (bits_at-short w found stream k cut)) ∙ h in cc)
    (λ all. each (number stream (w * k) w) (ap fault_number (sym (bits_at-found w found stream k all)) ∙ h))
    (cases_lt (8 * length stream) (w * k + w))

above-named : (low high : ℤ) (k j n : ℕ) → fault_number (above low high k n) ≡ Some j → j ≡ k
above-named low high k j n = chosen (ltb (int_gap low high) n)
  where
    chosen : (b : Bool) → fault_number (cond b (out_of_range k) (here (whole (low +ℤ pos n)))) ≡ Some j → j ≡ k
    chosen true h = cc
    chosen false h = cc

-- The item that a fault names is at or before the one that was looked for, and has this fault itself.
pub item_at-named : (kind : ItemKind) (stream : List ℕ) (k j : ℕ) → fault_number (item_at kind stream k) ≡ Some j → (j ≤ k) × (item_at kind stream j ≡ item_at kind stream k)
unfolding item_at
item_at-named (integers low high) stream k j h = chosen (width low high == 0) h
  where
    chosen : (b : Bool) → fault_number (cond b (here (whole low)) (bits_at (width low high) (above low high k) stream k)) ≡ Some j → (j ≤ k) × (cond b (here (whole low)) (bits_at (width low high) (above low high j) stream j) ≡ cond b (here (whole low)) (bits_at (width low high) (above low high k) stream k))
    chosen true g = cc
    chosen false g =
        let e : j ≡ k = bits_at-named (width low high) (above low high k) stream k j (λ n at_fault. above-named low high k j n at_fault) g in
        (omega arith, ap (λ m. bits_at (width low high) (above low high m) stream m) e)
item_at-named (words w) stream k j h =
    let e : j ≡ k = bits_at-named w (λ n. here (word n)) stream k j (λ n at_fault. cc) h in
    (omega arith, ap (λ m. bits_at w (λ n. here (word n)) stream m) e)
item_at-named strings stream k j h =
    let at = string_at-named 0 stream k j h in
    let place : j - 0 ≡ j = omega arith in
    (omega arith, ap (string_at 0 stream) (sym place) ∙ at.2)

-- the stream ends before the item does
abbrev pub IsShort : Outcome → Type 0
IsShort (here v) = ⊥
IsShort (short k) = Unit {0}
IsShort (over_limit k) = ⊥
IsShort (out_of_range k) = ⊥

bits_at-short_later : (w : ℕ) (found later : ℕ → Outcome) (stream : List ℕ) (k m : ℕ) → ((n : ℕ) → IsShort (found n) → ⊥) → k ≤ m → IsShort (bits_at w found stream k) → IsShort (bits_at w later stream m)
bits_at-short_later w found later stream k m each l h = ⊎_elim
    (λ cut. rw (bits_at-short w later stream m (wider w k m (8 * length stream) l cut)) tt)
    (λ all. absurd (each (number stream (w * k) w) (rw (bits_at-found w found stream k all) at h)))
    (cases_lt (8 * length stream) (w * k + w))
  where
    wider : (w k m n : ℕ) → k ≤ m → n < w * k + w → n < w * m + w
    wider w k m n l g = let more : w * k ≤ w * m = mul-le w k w m (le_refl w) l in omega arith

above-long : (low high : ℤ) (k n : ℕ) → IsShort (above low high k n) → ⊥
above-long low high k n = chosen (ltb (int_gap low high) n)
  where
    chosen : (b : Bool) → IsShort (cond b (out_of_range k) (here (whole (low +ℤ pos n)))) → ⊥
    chosen true h = h
    chosen false h = h

-- a stream that ends before an item ends before each later one
pub item_at-short_later : (kind : ItemKind) (stream : List ℕ) (k m : ℕ) → k ≤ m → IsShort (item_at kind stream k) → IsShort (item_at kind stream m)
unfolding item_at
item_at-short_later (integers low high) stream k m l h = chosen (width low high == 0) h
  where
    chosen : (b : Bool) → IsShort (cond b (here (whole low)) (bits_at (width low high) (above low high k) stream k)) → IsShort (cond b (here (whole low)) (bits_at (width low high) (above low high m) stream m))
    chosen true g = absurd g
    chosen false g = bits_at-short_later (width low high) (above low high k) (above low high m) stream k m (above-long low high k) l g
item_at-short_later (words w) stream k m l h = bits_at-short_later w (λ n. here (word n)) (λ n. here (word n)) stream k m (λ n g. g) l h
item_at-short_later strings stream k m l h = same (string_at 0 stream k) (string_at 0 stream m) (λ j g. string_at-later 0 stream k m j l g) h
  where
    same : (a b : Outcome) → ((j : ℕ) → fault_number a ≡ Some j → b ≡ a) → IsShort a → IsShort b
    same (here v) b each g = absurd g
    same (short j) b each g = let e : b ≡ short j = each j refl in rw e tt
    same (over_limit j) b each g = absurd g
    same (out_of_range j) b each g = absurd g

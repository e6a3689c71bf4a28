-- Flags that are set one after another.
use Rattle.std.proofs.Common.{◌≡◌, ℕ, zero, suc, ◌+◌, ◌%◌, ◌<◌, ◌≤◌, ◌==◌, ℤ, pos, Bool, true, false, ◌&&◌, List, [], ◌∷◌, length, map, take, get_or, set, refl, sym, subst, ap, ◌∙◌, arith}
use Rattle.std.specs.List.{list_all, AllByRecursion}
use Rattle.std.proofs.lemmas.List.{get_or-map, length-map}
use Rattle.std.proofs.Math.Nat.{mod-add-mod}
use Rattle.e57_layout.specs.Values.{ItemKind, strings, Value, whole, octets}
use Rattle.e57_column.specs.Column.{kind_of}
use Rattle.e57_column.specs.Reading.{AreWhole}
use Rattle.e57_blocks.specs.Block.{Block}
use Rattle.e57_blocks.specs.Runs.{held_values}
use Rattle.e57_copy.specs.Adding.{block_kinds, held_columns}
use Rattle.e57_copy.proofs.Handing.{length-held}
use Rattle.e57_plain.specs.Kept.{Test, is_between, column_value}
use Rattle.e57_filter.specs.declared.keep.Limits.{Limits}
use Rattle.e57_filter.specs.Keeping.{sieve_of, test_of, IsTestOf}
use Rattle.e57_filter.specs.Marking.{is_within, passes_here, AreMarks}

-- ---- one more flag

-- what all places up to k have, and this one
pub set_more : (pass : ℕ → Bool) (flags : List Bool) (k : ℕ) (b : Bool) → k < length flags → ((t : ℕ) → t < k → get_or flags t false ≡ pass t) → b ≡ pass k → (t : ℕ) → t < k + 1 → get_or (set flags k b) t false ≡ pass t
set_more pass [] k b within before is t below = absurd (omega (arith, within))
set_more pass (c ∷ flags) zero b within before is zero below = is
set_more pass (c ∷ flags) zero b within before is (suc t) below = absurd (omega (arith, below))
set_more pass (c ∷ flags) (suc k) b within before is zero below = before 0 (omega arith)
set_more pass (c ∷ flags) (suc k) b within before is (suc t) below =
    set_more (λ (j : ℕ). pass (suc j)) flags k b (omega (arith, within)) (λ j under. before (suc j) (omega (arith, under))) is t (omega (arith, below))

pub set_later : (flags : List Bool) (k : ℕ) (b : Bool) (t : ℕ) → k + 1 ≤ t → get_or (set flags k b) t false ≡ get_or flags t false
set_later [] k b t after = refl
set_later (c ∷ flags) zero b zero after = absurd (omega (arith, after))
set_later (c ∷ flags) zero b (suc t) after = refl
set_later (c ∷ flags) (suc k) b zero after = absurd (omega (arith, after))
set_later (c ∷ flags) (suc k) b (suc t) after = set_later flags k b t (omega (arith, after))

-- ---- every so many

pub phase_next : (first k every phase next : ℕ) → phase ≡ (first + k) % every → next ≡ (phase + 1) % every → next ≡ (first + (k + 1)) % every
phase_next first k every phase next is step =
    let sum : first + k + 1 ≡ first + (k + 1) = omega arith in
    step ∙ ap (λ (p : ℕ). (p + 1) % every) is ∙ mod-add-mod (first + k) every 1 ∙ ap (λ (p : ℕ). p % every) sum

pub each_here : (n past every : ℕ) (columns : List (List Value)) (flags : List Bool) → AreMarks n (λ (k : ℕ). (past % every + k) % every == 0) flags → AreMarks n (passes_here (sieve_of every []) past columns) flags
unfolding passes_here
each_here n past every columns flags marks =
    (marks.0, λ k below. marks.1 k below ∙ ap (λ (p : ℕ). p == 0) (mod-add-mod past every k) ∙ and_true ((past + k) % every == 0))
  where
    and_true : (b : Bool) → b ≡ (b && true)
    and_true true = refl
    and_true false = refl

-- ---- one more test

and_assoc : (a b c : Bool) → ((a && b) && c) ≡ (a && (b && c))
and_assoc true b c = refl
and_assoc false b c = refl

value_held : (blocks : List Block) (i n f k : ℕ) (b : Block) → f < length blocks → b ≡ get_or blocks f b → get_or (held_values b i n) k (octets []) ≡ column_value (held_columns blocks i n) f k
value_held blocks i n f k b below is =
    ap (λ (values : List Value). get_or values k (octets [])) (sym (get_or-map (λ (x : Block). held_values x i n) blocks f b [] below ∙ ap (λ (x : Block). held_values x i n) (sym is)))

list_all_next : (p : Test → Bool) (tests : List Limits) (j : ℕ) (t : Limits) → j < length tests → t ≡ get_or tests j t → list_all p (map test_of (take (j + 1) tests)) ≡ (list_all p (map test_of (take j tests)) && p (test_of t))
list_all_next p [] j t below is = absurd (omega (arith, below))
list_all_next p (u ∷ tests) zero t below is = ap (λ (x : Limits). p (test_of x) && true) (sym is) ∙ and_true (p (test_of t))
  where
    and_true : (b : Bool) → (b && true) ≡ b
    and_true true = refl
    and_true false = refl
list_all_next p (u ∷ tests) (suc j) t below is =
    let next : suc j + 1 ≡ suc (j + 1) = omega arith in
    ap (λ (e : ℕ). list_all p (map test_of (take e (u ∷ tests)))) next
    ∙ ap (λ (b : Bool). p (test_of u) && b) (list_all_next p tests j t (omega (arith, below)) is) ∙ sym (and_assoc (p (test_of u)) (list_all p (map test_of (take j tests))) (p (test_of t)))

pub tested_one : (blocks : List Block) (i n : ℕ) (t : Limits) (b : Block) (flags now : List Bool) → t.block < length blocks → b ≡ get_or blocks t.block b
    → AreMarks n (λ (k : ℕ). get_or flags k false && is_between t.low t.high (get_or (held_values b i n) k (octets []))) now
    → AreMarks n (λ (k : ℕ). get_or flags k false && is_within (test_of t) (held_columns blocks i n) k) now
unfolding is_within
tested_one blocks i n t b flags now under is marks = (
  marks.0,
  λ k inside.
      marks.1 k inside ∙ ap (λ (v : Value). get_or flags k false && is_between t.low t.high v) (value_held blocks i n t.block k b under is),
)

pub tested_next : (n past every : ℕ) (columns : List (List Value)) (tests : List Limits) (j : ℕ) (t : Limits) (flags now : List Bool) → j < length tests → t ≡ get_or tests j t
    → AreMarks n (passes_here (sieve_of every (take j tests)) past columns) flags
    → AreMarks n (λ (k : ℕ). get_or flags k false && is_within (test_of t) columns k) now
    → AreMarks n (passes_here (sieve_of every (take (j + 1) tests)) past columns) now
unfolding passes_here
tested_next n past every columns tests j t flags now below is marks after = (
  after.0,
  λ k inside.
      let p : Test → Bool = λ (x : Test). is_within x columns k in
      after.1 k inside
      ∙ ap (λ (c : Bool). c && p (test_of t)) (marks.1 k inside)
      ∙ and_assoc ((past + k) % every == 0) (list_all p (map test_of (take j tests))) (p (test_of t))
      ∙ ap (λ (c : Bool). (past + k) % every == 0 && c) (sym (list_all_next p tests j t below is)),
)

-- the block of a test, and that it is of integers
pub test_at : (kinds : List ItemKind) (tests : List Limits) (j : ℕ) (t : Limits) → j < length tests → t ≡ get_or tests j t → AllByRecursion (IsTestOf kinds) tests → IsTestOf kinds t
test_at kinds [] j t below is all = absurd (omega (arith, below))
test_at kinds (u ∷ tests) zero t below is all = subst (IsTestOf kinds) (sym is) all.0
test_at kinds (u ∷ tests) (suc j) t below is all = test_at kinds tests j t (omega (arith, below)) is all.1

whole_below : (kinds : List ItemKind) (f : ℕ) → AreWhole (get_or kinds f strings) → f < length kinds
whole_below [] f is = absurd is
whole_below (kind ∷ kinds) zero is = omega arith
whole_below (kind ∷ kinds) (suc f) is = let below = whole_below kinds f is in omega (arith, below)

pub test_below : (blocks : List Block) (t : Limits) → IsTestOf (block_kinds blocks) t → t.block < length blocks
test_below blocks t tested =
    let under = whole_below (block_kinds blocks) t.block tested in
    rw (length-map blocks (λ (b : Block). kind_of b.column.items)) at under

pub test_whole : (blocks : List Block) (t : Limits) (b : Block) → IsTestOf (block_kinds blocks) t → b ≡ get_or blocks t.block b → AreWhole (kind_of b.column.items)
test_whole blocks t b tested is =
    subst AreWhole
    (get_or-map (λ (x : Block). kind_of x.column.items) blocks t.block b strings (test_below blocks t tested) ∙ ap (λ (x : Block). kind_of x.column.items) (sym is))
    tested

-- ---- the integers of a block

pub items_long : (b : Block) (i n : ℕ) (items : List ℤ) → map whole items ≡ held_values b i n → length items ≡ n
items_long b i n items are = sym (length-map items whole) ∙ ap (λ (values : List Value). length values) are ∙ length-held b i n

pub items_marked : (b : Block) (i n : ℕ) (items : List ℤ) (low high : ℤ) (flags now : List Bool) → map whole items ≡ held_values b i n
    → AreMarks (length items) (λ (k : ℕ). get_or flags k false && is_between low high (whole (get_or items k (pos 0)))) now
    → AreMarks n (λ (k : ℕ). get_or flags k false && is_between low high (get_or (held_values b i n) k (octets []))) now
items_marked b i n items low high flags now are marks =
    let long = items_long b i n items are in (
      marks.0 ∙ long,
      λ k below.
          let inside : k < length items = omega (arith, below, long) in
          marks.1 k inside
          ∙ ap (λ (v : Value). get_or flags k false && is_between low high v)
          (sym (get_or-map whole items k (pos 0) (octets []) inside) ∙ ap (λ (values : List Value). get_or values k (octets [])) are),
    )

-- ---- a test by its number

abbrev pub no_limits : Limits
no_limits = record { block = 0; low = pos 0; high = pos 0 }

pub limits_same : (tests : List Limits) (j : ℕ) → j < length tests → get_or tests j no_limits ≡ get_or tests j (get_or tests j no_limits)
limits_same [] j below = absurd (omega (arith, below))
limits_same (t ∷ tests) j below = by_place (t ∷ tests) j (get_or (t ∷ tests) j no_limits) below
  where
    by_place : (us : List Limits) (k : ℕ) (d : Limits) → k < length us → get_or us k no_limits ≡ get_or us k d
    by_place [] k d under = absurd (omega (arith, under))
    by_place (u ∷ us) zero d under = refl
    by_place (u ∷ us) (suc k) d under = by_place us k d (omega (arith, under))

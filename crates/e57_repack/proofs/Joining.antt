-- Laws of ranges that are widened.
use Rattle.std.specs.Prelude.{◌≡◌, ℕ, ◌+◌, ◌<◌, ℤ, ◌≤ℤ◌, List, [], ◌∷◌, ◌++◌, map, take, length, get_or, Option, Some, None}
use Rattle.std.specs.Int.{int_min, int_max}
use Rattle.std.proofs.Common.{refl, sym, ap, ◌∙◌, arith}
use Rattle.std.proofs.lemmas.Int.{ints, clamps}
use Rattle.e57_layout.specs.Values.{Value, whole, word, octets}
use Rattle.e57_plain.specs.Tight.{widened, range_of}
use Rattle.std.proofs.lemmas.List.{take_more}
use Rattle.e57_blocks.specs.Runs.{strings_from}
use Rattle.e57_repack.specs.Widening.{joined}
use Rattle.e57_copy.proofs.Lists.{map_append}

min-assoc : (a b c : ℤ) → int_min a (int_min b c) ≡ int_min (int_min a b) c
min-assoc a b c = omega (arith, ints, clamps)

max-assoc : (a b c : ℤ) → int_max a (int_max b c) ≡ int_max (int_max a b) c
max-assoc a b c = omega (arith, ints, clamps)

min-comm : (a b : ℤ) → int_min a b ≡ int_min b a
min-comm a b = omega (arith, ints, clamps)

max-comm : (a b : ℤ) → int_max a b ≡ int_max b a
max-comm a b = omega (arith, ints, clamps)

pub joined-none : (r : Option (ℤ × ℤ)) → joined r None ≡ r
joined-none None = refl
joined-none (Some r) = refl

pub joined-assoc : (r s t : Option (ℤ × ℤ)) → joined r (joined s t) ≡ joined (joined r s) t
joined-assoc None s t = refl
joined-assoc (Some r) None t = refl
joined-assoc (Some r) (Some s) None = refl
joined-assoc (Some r) (Some s) (Some t) = rw (min-assoc r.0 s.0 t.0, max-assoc r.1 s.1 t.1) refl

pub joined-comm : (r s : Option (ℤ × ℤ)) → joined r s ≡ joined s r
joined-comm None s = sym (joined-none s)
joined-comm (Some r) None = refl
joined-comm (Some r) (Some s) = rw (min-comm r.0 s.0, max-comm r.1 s.1) refl

widened-joined : (z : ℤ) (r : Option (ℤ × ℤ)) → widened z r ≡ joined (Some (z, z)) r
widened-joined z None = refl
widened-joined z (Some r) = refl

-- of some items and of others behind them
pub range_of-append : (xs ys : List Value) → range_of (xs ++ ys) ≡ joined (range_of xs) (range_of ys)
range_of-append [] ys = refl
range_of-append (whole z ∷ xs) ys =
    ap (widened z) (range_of-append xs ys)
    ∙ widened-joined z (joined (range_of xs) (range_of ys))
    ∙ joined-assoc (Some (z, z)) (range_of xs) (range_of ys)
    ∙ ap (λ r. joined r (range_of ys)) (sym (widened-joined z (range_of xs)))
range_of-append (word n ∷ xs) ys = range_of-append xs ys
range_of-append (octets t ∷ xs) ys = range_of-append xs ys

-- one integer more
pub range-more : (items : List ℤ) (k : ℕ) (d low high z a b : ℤ) → k < length items → range_of (map whole (take k items)) ≡ Some (low, high) → low ≤ℤ high → z ≡ get_or items k d → a ≡ int_min low z → b ≡ int_max high z
    → (range_of (map whole (take (k + 1) items)) ≡ Some (a, b)) × (a ≤ℤ b)
range-more items k d low high z a b below before order is least most =
    let more = take_more items k d below in (
      ap (λ (xs : List ℤ). range_of (map whole xs)) more
          ∙ ap range_of (map_append whole (take k items) (get_or items k d ∷ []))
          ∙ range_of-append (map whole (take k items)) (whole (get_or items k d) ∷ [])
          ∙ ap (λ r. joined r (Some (get_or items k d, get_or items k d))) before
          ∙ rw (sym is, sym least, sym most) refl,
      wide low high z a b order least most,
    )
  where
    wide : (low high z a b : ℤ) → low ≤ℤ high → a ≡ int_min low z → b ≡ int_max high z → a ≤ℤ b
    wide low high z a b order least most = omega (arith, ints, clamps)

-- of a run of words or strings
pub words-none : (xs : List ℕ) → range_of (map word xs) ≡ None
words-none [] = refl
words-none (x ∷ xs) = words-none xs

pub strings-none : (bytes : List ℕ) (begin : ℕ) (ends : List ℕ) → range_of (strings_from bytes begin ends) ≡ None
unfolding strings_from
strings-none bytes begin [] = refl
strings-none bytes begin (e ∷ ends) = strings-none bytes e ends

-- The tags of some records in a row, one behind another.
use Rattle.std.proofs.Common.{◌≡◌, ℕ, zero, suc, ◌+◌, ◌-◌, ◌*◌, ◌%◌, ◌<◌, ◌≤◌, List, length, get_or, map, take, drop, replicate, refl, sym, subst, ap, ◌∙◌, arith}
use Rattle.std.specs.List.{range_with_len, sum_by}
use Rattle.std.proofs.lemmas.List.{drop-replicate, map-id, take-replicate}
use Rattle.std.proofs.lemmas.List.FromFn.{sum_by-map-range_with_len_more}
use Rattle.e57_layout.specs.Values.{octets}
use Rattle.e57_chunk_out.specs.Texts.{strings_at, AreEnds}
use Rattle.e57_trial.specs.Content.{tag_at}
use Rattle.e57_trial.specs.Records.{tags_end}
use Rattle.e57_trial.proofs.Columns.{first_items}

-- ---- where they end

pub tags_more : (first n : ℕ) → tags_end first (n + 1) ≡ tags_end first n + (first + n) % 4
tags_more first n =
    let same : (m : ℕ) → map (λ (i : ℕ). i) (range_with_len first m) ≡ range_with_len first m = λ m. map-id (range_with_len first m) in
    ap (λ (xs : List ℕ). sum_by (λ i. i % 4) xs) (sym (same (n + 1)))
    ∙ sum_by-map-range_with_len_more (λ i. i % 4) (λ (i : ℕ). i) first n (first + n) refl
    ∙ ap (λ (xs : List ℕ). sum_by (λ i. i % 4) xs + (first + n) % 4) (same n)

tags_next : (first n : ℕ) → tags_end first (suc n) ≡ tags_end first n + (first + n) % 4
tags_next first n = let next : suc n ≡ n + 1 = omega arith in ap (tags_end first) next ∙ tags_more first n

tags_few : (first n : ℕ) → tags_end first n ≤ 3 * n
tags_few first zero = omega arith
tags_few first (suc n) = let rest = tags_few first n in let next = tags_next first n in omega (arith, rest, next)

tags_rise : (first j n : ℕ) → tags_end first j ≤ tags_end first (j + n)
tags_rise first j zero = let none : j + 0 ≡ j = omega arith in let same = ap (tags_end first) none in omega (arith, same)
tags_rise first j (suc n) =
    let place : j + suc n ≡ suc (j + n) = omega arith in
    let same = ap (tags_end first) place in
    let rest = tags_rise first j n in
    let next = tags_next first (j + n) in
    omega (arith, same, rest, next)

-- the ends of n of them, behind the first j
abbrev pub ends_of : ℕ → ℕ → ℕ → List ℕ
ends_of first j n = map (λ k. tags_end first (k + 1)) (range_with_len j n)

are_ends : (most first j n : ℕ) → tags_end first (j + n) ≤ most → AreEnds most (tags_end first j) (ends_of first j n)
unfolding AreEnds
are_ends most first j zero few = let none : j + 0 ≡ j = omega arith in let same = ap (tags_end first) none in omega (arith, same, few)
are_ends most first j (suc n) few =
    let next = tags_more first j in
    let place : j + suc n ≡ j + 1 + n = omega arith in
    (omega (arith, next), omega (arith, next), are_ends most first (j + 1) n (subst (λ m. tags_end first m ≤ most) place few))

-- ---- their bytes

piece : (m b k x : ℕ) → b + k ≤ m → take k (drop b (replicate m x)) ≡ replicate k x
piece m b k x few = ap (λ (xs : List ℕ). take k xs) (drop-replicate b m x) ∙ take-replicate k (m - b) x (omega (arith, few))

tags_are : (m first j n : ℕ) → tags_end first (j + n) ≤ m → strings_at (replicate m 0x61) (tags_end first j) (ends_of first j n) ≡ map (λ i. octets (tag_at i)) (range_with_len (first + j) n)
unfolding strings_at
tags_are m first j zero few = refl
tags_are m first j (suc n) few =
    let next = tags_more first j in
    let place : j + suc n ≡ j + 1 + n = omega arith in
    let after : first + (j + 1) ≡ first + j + 1 = omega arith in
    let last : tags_end first (j + 1 + n) ≤ m = subst (λ k. tags_end first k ≤ m) place few in
    let rise = tags_rise first (j + 1) n in
    let size : tags_end first (j + 1) - tags_end first j ≡ (first + j) % 4 = omega (arith, next) in
    let here : take (tags_end first (j + 1) - tags_end first j) (drop (tags_end first j) (replicate m 0x61)) ≡ tag_at (first + j) =
    ap (λ k. take k (drop (tags_end first j) (replicate m 0x61))) size ∙ piece m (tags_end first j) ((first + j) % 4) 0x61 (omega (arith, next, rise, last)) in
    let rest = tags_are m first (j + 1) n last ∙ ap (λ a. map (λ i. octets (tag_at i)) (range_with_len a n)) after in
    cc

-- ---- as the block has them

module _ (first n : ℕ) (ends : List ℕ) (few : n ≤ 1024) (long : length ends ≡ 1024) (each : (k : ℕ) → k < 1024 → get_or ends k 0 ≡ tags_end first (k + 1)) where
  taken : take n ends ≡ ends_of first 0 n
  taken = first_items (λ k. tags_end first (k + 1)) ends 0 n 0 (omega (arith, few, long)) (λ k below. let none : 0 + k ≡ k = omega arith in each k (omega (arith, below, few)) ∙ ap (λ i. tags_end first (i + 1)) (sym none))

  none_yet : tags_end first 0 ≡ 0
  none_yet = refl

  within : tags_end first (0 + n) ≤ 3072
  within = let bound = tags_few first (0 + n) in omega (arith, bound, few)

  pub tag_ends_are : AreEnds 3072 0 (take n ends)
  tag_ends_are = subst (λ (es : List ℕ). AreEnds 3072 0 es) (sym taken) (are_ends 3072 first 0 n within)

  pub tags_taken : strings_at (replicate 3072 0x61) 0 (take n ends) ≡ map (λ i. octets (tag_at i)) (range_with_len first n)
  tags_taken =
      let none : first + 0 ≡ first = omega arith in
      ap (λ (es : List ℕ). strings_at (replicate 3072 0x61) 0 es) taken ∙ tags_are 3072 first 0 n within ∙ ap (λ a. map (λ i. octets (tag_at i)) (range_with_len a n)) none

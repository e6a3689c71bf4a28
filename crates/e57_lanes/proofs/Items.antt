-- Items written one by one, and eight at a time.
use Rattle.std.proofs.Common.{◌≡◌, ℕ, zero, suc, ◌+◌, ◌-◌, ◌*◌, ◌/◌, ◌%◌, ◌<◌, ◌≤◌, ◌⊎◌, List, map, length, get_or, set, take, drop, All, ℤ, pos, ◌+ℤ◌, refl, sym, ap, ◌∙◌, arith, inl, inr, subst}
use Rattle.std.proofs.lemmas.Simd.{get_or-put_chunk_below, get_or-put_chunk_at, get_or-put_chunk_above, length-put_chunk}
use Rattle.std.proofs.lemmas.List.{ext_get_or, get_or-take, get_or-drop, take-take, map-id, length-take, length-drop, get_or-set_same, get_or-set_other, length-set, length-map, get_or-map}
use Rattle.std.proofs.lemmas.Bool.{cases_lt, cases_eq}
use lib.Lanes.{put_chunk}
use Rattle.e57_bits.specs.Bits.{number}
use Rattle.e57_bits.proofs.BitLaws.{number-byte}
use Rattle.e57_lanes.specs.Unpack.{stored, Written}
use Rattle.e57_lanes.specs.Eight.{eight_numbers}

module _ (bytes : List ℕ) (phase width : ℕ) (minimum : ℤ) (span : ℕ) where
  -- nothing is written yet
  pub Written-none : (from : ℕ) (old : List ℤ) → Written bytes phase width minimum span from from old old
  Written-none from old = record {
    within = λ k h g. absurd (omega arith);
    items = λ k h g. absurd (omega arith);
    others = λ k h. refl;
    same_length = refl;
  }

  -- one item more
  pub Written-more : (from k : ℕ) (old new : List ℤ) (x : ℤ) → Written bytes phase width minimum span from k old new → from ≤ k → k < length old
      → stored bytes phase width k ≤ span → x ≡ minimum +ℤ pos (stored bytes phase width k) → Written bytes phase width minimum span from (k + 1) old (set new k x)
  Written-more from k old new x w start room small e = record {
    within = λ j h g. elim (cases_lt j k) [ inl below ↦ w.within j h below | inr past ↦ at_k j past g small ];
    items = λ j h g. elim (cases_eq j k) [
      | inl same ↦ rw same (get_or-set_same new k x (pos 0) (omega (arith, w.same_length)) ∙ e)
      | inr other ↦ get_or-set_other new k j x (pos 0) other ∙ w.items j h (omega arith)
    ];
    others = λ j h. get_or-set_other new k j x (pos 0) (apart j h) ∙ w.others j (before j h);
    same_length = length-set new k x ∙ w.same_length;
  }
    where
      at_k : (j : ℕ) → k ≤ j → j < k + 1 → stored bytes phase width k ≤ span → stored bytes phase width j ≤ span
      at_k j h g s = let same : j ≡ k = omega arith in rw same s

      apart : (j : ℕ) → (j < from) ⊎ (k + 1 ≤ j) → j ≡ k → ⊥
      apart j (inl h) e = omega arith
      apart j (inr h) e = omega arith

      before : (j : ℕ) → (j < from) ⊎ (k + 1 ≤ j) → (j < from) ⊎ (k ≤ j)
      before j (inl h) = inl h
      before j (inr h) = inr (omega arith)

  -- what was written in two parts
  pub Written-join : (from mid until : ℕ) (a b c : List ℤ) → Written bytes phase width minimum span from mid a b → Written bytes phase width minimum span mid until b c
      → from ≤ mid → mid ≤ until → Written bytes phase width minimum span from until a c
  Written-join from mid until a b c u v h g = record {
    within = λ k l r. elim (cases_lt k mid) [ inl below ↦ u.within k l below | inr past ↦ v.within k past r ];
    items = λ k l r. elim (cases_lt k mid) [ inl below ↦ v.others k (inl below) ∙ u.items k l below | inr past ↦ v.items k past r ];
    others = λ k l. v.others k (later k l) ∙ u.others k (sooner k l);
    same_length = v.same_length ∙ u.same_length;
  }
    where
      later : (k : ℕ) → (k < from) ⊎ (until ≤ k) → (k < mid) ⊎ (until ≤ k)
      later k (inl l) = inl (omega arith)
      later k (inr l) = inr l

      sooner : (k : ℕ) → (k < from) ⊎ (until ≤ k) → (k < from) ⊎ (mid ≤ k)
      sooner k (inl l) = inl l
      sooner k (inr l) = inr (omega arith)

-- number j of eight
eighth : (b : List ℕ) (t w j : ℕ) → j < 8 → get_or (eight_numbers b t w) j 0 ≡ number b (t + j * w) w
eighth b t w zero h = ap (λ x. number b x w) (omega arith)
eighth b t w (suc zero) h = ap (λ x. number b x w) (omega arith)
eighth b t w (suc (suc zero)) h = refl
eighth b t w (suc (suc (suc zero))) h = refl
eighth b t w (suc (suc (suc (suc zero)))) h = refl
eighth b t w (suc (suc (suc (suc (suc zero))))) h = refl
eighth b t w (suc (suc (suc (suc (suc (suc zero)))))) h = refl
eighth b t w (suc (suc (suc (suc (suc (suc (suc zero))))))) h = refl
eighth b t w (suc (suc (suc (suc (suc (suc (suc (suc j)))))))) h = absurd (omega arith)

later_place : (p at k w : ℕ) → at ≤ k → p + at * w + (k - at) * w ≡ p + k * w
later_place p at k w h = let e : k ≡ at + (k - at) = omega arith in grouped p at (k - at) w ∙ ap (λ x. p + x * w) (sym e)
  where
    grouped : (p at d w : ℕ) → p + at * w + d * w ≡ p + (at + d) * w
    grouped p at d w = grind arith

-- eight items more
pub Written-eight : (bytes : List ℕ) (phase width : ℕ) (minimum : ℤ) (span at : ℕ) (old mid new : List ℤ) (numbers : List ℕ) (t : ℕ)
    → Written bytes phase width minimum span 0 at old mid → numbers ≡ eight_numbers bytes t width → t ≡ phase + at * width → at + 8 ≤ length old
    → All (λ n. n ≤ span) numbers → new ≡ put_chunk at mid (map (λ n. minimum +ℤ pos n) numbers)
    → Written bytes phase width minimum span 0 (at + 8) old new
Written-eight bytes phase width minimum span at old mid new numbers t w e place room all made = record {
  within = λ k l r. elim (cases_lt k at) [ inl below ↦ w.within k l below | inr past ↦ small k past r ];
  items = λ k l r. elim (cases_lt k at) [
    | inl below ↦ ap (λ xs. get_or xs k (pos 0)) made ∙ get_or-put_chunk_below at mid ys k (pos 0) below ∙ w.items k l below
    | inr past ↦ item k past r
  ];
  others = λ k l. ap (λ xs. get_or xs k (pos 0)) made ∙ get_or-put_chunk_above at mid ys k (pos 0) (after k l) ∙ w.others k (inr (later k l));
  same_length = ap length made ∙ length-put_chunk at mid ys ∙ w.same_length;
}
  where
    ys : List ℤ
    ys = map (λ n. minimum +ℤ pos n) numbers

    eight : length numbers ≡ 8
    eight = ap length e

    number_at : (k : ℕ) → at ≤ k → k < at + 8 → get_or numbers (k - at) 0 ≡ stored bytes phase width k
    number_at k l r =
        ap (λ xs. get_or xs (k - at) 0) e
        ∙ eighth bytes t width (k - at) (omega arith)
        ∙ ap (λ x. number bytes x width) (ap (λ x. x + (k - at) * width) place ∙ later_place phase at k width l)

    small : (k : ℕ) → at ≤ k → k < at + 8 → stored bytes phase width k ≤ span
    small k l r = let h : get_or numbers (k - at) 0 ≤ span = all (k - at) 0 (omega (arith, eight)) in rw (number_at k l r) at h

    item : (k : ℕ) → at ≤ k → k < at + 8 → get_or new k (pos 0) ≡ minimum +ℤ pos (stored bytes phase width k)
    item k l r =
        let place_in : at + (k - at) ≡ k = omega arith in
        let long : length ys ≡ 8 = length-map numbers (λ n. minimum +ℤ pos n) ∙ eight in
        ap (λ xs. get_or xs k (pos 0)) made
        ∙ ap (λ j. get_or (put_chunk at mid ys) j (pos 0)) (sym place_in)
        ∙ get_or-put_chunk_at at mid ys (k - at) (pos 0) (omega (arith, long)) (omega (arith, w.same_length, long))
        ∙ get_or-map (λ n. minimum +ℤ pos n) numbers (k - at) 0 (pos 0) (omega (arith, eight))
        ∙ ap (λ n. minimum +ℤ pos n) (number_at k l r)

    later : (k : ℕ) → (k < 0) ⊎ (at + 8 ≤ k) → at ≤ k
    later k (inl h) = absurd (omega arith)
    later k (inr h) = omega arith

    after : (k : ℕ) → (k < 0) ⊎ (at + 8 ≤ k) → at + length ys ≤ k
    after k (inl h) = absurd (omega arith)
    after k (inr h) = omega (arith, length-map numbers (λ n. minimum +ℤ pos n), eight)

-- a block more
pub Written-block : (bytes : List ℕ) (phase width : ℕ) (minimum : ℤ) (span block : ℕ) (old mid new : List ℤ) (numbers : List ℕ) (t : ℕ)
    → Written bytes phase width minimum span 0 (8 * block) old mid → numbers ≡ eight_numbers bytes t width → t ≡ 8 * (block * width) + phase → 8 * block + 8 ≤ length old
    → All (λ n. n ≤ span) numbers → new ≡ put_chunk (8 * block) mid (map (λ n. minimum +ℤ pos n) numbers)
    → Written bytes phase width minimum span 0 (8 * (block + 1)) old new
Written-block bytes phase width minimum span block old mid new numbers t w e place room all made =
    let next : 8 * block + 8 ≡ 8 * (block + 1) = omega arith in
    subst (λ n. Written bytes phase width minimum span 0 n old new) next
    (Written-eight bytes phase width minimum span (8 * block) old mid new numbers t w e (place ∙ begins block width phase) room all made)
  where
    begins : (q w p : ℕ) → 8 * (q * w) + p ≡ p + 8 * q * w
    begins q w p = grind arith

-- where item k begins, by the byte and the bit of it
pub address : (k w p : ℕ) → 8 * (k / 8 * w + (p + k % 8 * w) / 8) + (p + k % 8 * w) % 8 ≡ p + k * w
address k w p =
    let parts : k ≡ 8 * (k / 8) + k % 8 = omega arith in
    let product : k * w ≡ 8 * (k / 8 * w) + k % 8 * w = ap (λ x. x * w) parts ∙ grouped (k / 8) (k % 8) w in
    joined (k / 8 * w) (k % 8 * w) (k * w) p product
  where
    grouped : (q r w : ℕ) → (8 * q + r) * w ≡ 8 * (q * w) + r * w
    grouped q r w = grind arith

    joined : (a b c p : ℕ) → c ≡ 8 * a + b → 8 * (a + (p + b) / 8) + (p + b) % 8 ≡ p + c
    joined a b c p e = omega arith

-- eight numbers, each known by its place
pub eight_ext : (b : List ℕ) (t w : ℕ) (xs : List ℕ) → length xs ≡ 8 → ((j : ℕ) → j < 8 → get_or xs j 0 ≡ number b (t + j * w) w) → xs ≡ eight_numbers b t w
eight_ext b t w xs long each =
    ext_get_or 0 xs (eight_numbers b t w) long (λ j h. let small : j < 8 = omega (arith, long) in each j small ∙ sym (eighth b t w j small))

-- eight bytes, as numbers of eight bits
pub eight_bytes : (b : List ℕ) (at : ℕ) → ((k : ℕ) → get_or b k 0 < 256) → at + 8 ≤ length b
    → map (λ n. n) (take 8 (take (at + 8 - at) (drop at b))) ≡ eight_numbers b (8 * at) 8
eight_bytes b at bytes room =
    let eight : at + 8 - at ≡ 8 = omega arith in
    let long : length (take 8 (drop at b)) ≡ 8 = omega (arith, length-take 8 (drop at b), length-drop at b) in
    map-id (take 8 (take (at + 8 - at) (drop at b)))
    ∙ ap (λ n. take 8 (take n (drop at b))) eight
    ∙ take-take 8 8 (drop at b) (omega arith)
    ∙ eight_ext b (8 * at) 8 (take 8 (drop at b)) long
    (λ j h. get_or-take 8 (drop at b) j 0 h ∙ get_or-drop at b j 0 ∙ sym (number-byte b (at + j) (bytes (at + j))) ∙ ap (λ t. number b t 8) (omega arith))

-- Laws of items that wait: a part of them, and its bytes.
use Rattle.std.proofs.Common.{◌≡◌, ℕ, zero, suc, ◌+◌, ◌-◌, ◌*◌, ◌/◌, ◌%◌, ◌^◌, ◌<◌, ◌≤◌, List, [], ◌∷◌, ◌++◌, length, replicate, subst, map, take, drop, get_or, ℤ, pos, ◌+ℤ◌, ◌-ℤ◌, ◌≤ℤ◌, ◌<ℤ◌, refl, sym, ap, ◌∙◌, arith, length-drop, length-take}
use Rattle.std.specs.Int.{int_gap}
use Rattle.std.specs.List.{flat_map, AllByRecursion}
use Rattle.std.proofs.lemmas.Int.{ints}
use Rattle.std.proofs.Math.Nat.{zero-div}
use Rattle.std.proofs.lemmas.List.{take-take, drop-take, take-map, drop-map, length-map, length-take-le, length-replicate}
use Rattle.e57_bits.specs.Bits.{bit}
use Rattle.e57_layout.specs.Bytes.{low_bytes, joined, packed}
use Rattle.e57_layout.specs.Values.{ItemKind, integers, words, Value, whole, word, IsKind}
use Rattle.e57_layout.specs.Widths.{width}
use Rattle.e57_layout.specs.Items.{IsItem, AreItems, stored, field_bytes}
use Rattle.e57_layout.proofs.Laws.Numbers.{AreBelow, low_bytes-zero, joined-cons, joined-nil, packed_is, length-packed, packed-append}
use Rattle.e57_layout.proofs.Laws.Widths.{gap-le, gap-back, width-holds}
use Rattle.e57_lanes.specs.Pack.{CanPack, Packed}
use Rattle.e57_chunk_out.specs.Texts.{strings_at, AreEnds}
use Rattle.e57_chunk_out.specs.Waiting.{part}
use Rattle.e57_chunk_out.proofs.Packing.{packed-is}
use Rattle.e57_chunk_out.proofs.Strings.{begin_at, strings_at-take, strings_at-drop, begin_at-take, ends-take, ends-drop}

-- ---- a part

pub take_part : {A : Type 0} (from n until : ℕ) (xs : List A) → from + n ≤ until → take n (drop from (take until xs)) ≡ take n (drop from xs)
take_part from n until xs h =
    let end : from + (until - from) ≡ until = omega arith in
    ap (λ k. take n (drop from (take k xs))) (sym end) ∙ ap (take n) (drop-take from (until - from) xs) ∙ take-take n (until - from) (drop from xs) (omega arith)

pub part_map : {A B : Type 0} (f : A → B) (from n until : ℕ) (xs : List A) → from + n ≤ until → map f (take (from + n - from) (drop from xs)) ≡ take n (drop from (map f (take until xs)))
part_map f from n until xs h =
    let count : from + n - from ≡ n = omega arith in
    ap (λ k. map f (take k (drop from xs))) count
    ∙ sym (take-map f n (drop from xs))
    ∙ ap (take n) (sym (drop-map f from xs))
    ∙ sym (take_part from n until (map f xs) h)
    ∙ ap (λ ys. take n (drop from ys)) (take-map f until xs)

pub part_strings : (bytes : List ℕ) (from n until : ℕ) (ends : List ℕ) → from + n ≤ until → until ≤ length ends → strings_at bytes (begin_at 0 ends from) (take (from + n - from) (drop from ends)) ≡ part from n (strings_at bytes 0 (take until ends))
part_strings bytes from n until ends h g =
    let count : from + n - from ≡ n = omega arith in
    let there : from ≤ length (take until ends) = rw (length-take until ends) (omega arith) in
    ap (λ k. strings_at bytes (begin_at 0 ends from) (take k (drop from ends))) count
    ∙ ap (strings_at bytes (begin_at 0 ends from)) (sym (take_part from n until ends h))
    ∙ ap (λ b. strings_at bytes b (take n (drop from (take until ends)))) (sym (begin_at-take from until 0 ends (omega arith)))
    ∙ sym (strings_at-take bytes n (begin_at 0 (take until ends) from) (drop from (take until ends)))
    ∙ ap (take n) (sym (strings_at-drop bytes from 0 (take until ends) there))

pub part_ends : (most from n until : ℕ) (ends : List ℕ) → from + n ≤ until → until ≤ length ends → AreEnds most 0 (take until ends) → AreEnds most (begin_at 0 ends from) (take (from + n - from) (drop from ends))
part_ends most from n until ends h g are =
    let count : n ≡ from + n - from = omega arith in
    let there : from ≤ length (take until ends) = rw (length-take until ends) (omega arith) in
    let later = ends-take most n (begin_at 0 (take until ends) from) (drop from (take until ends)) (ends-drop most from 0 (take until ends) there are) in
    subst (λ (es : List ℕ). AreEnds most (begin_at 0 ends from) es) (take_part from n until ends h ∙ ap (λ k. take k (drop from ends)) count)
    (subst (λ b. AreEnds most b (take n (drop from (take until ends)))) (begin_at-take from until 0 ends (omega arith)) later)

pub all_drop : {A : Type 0} (P : A → Type 0) (k : ℕ) (xs : List A) → AllByRecursion P xs → AllByRecursion P (drop k xs)
all_drop P zero xs h = h
all_drop P (suc k) [] h = tt
all_drop P (suc k) (x ∷ xs) h = all_drop P k xs h.1

all_take : {A : Type 0} (P : A → Type 0) (k : ℕ) (xs : List A) → AllByRecursion P xs → AllByRecursion P (take k xs)
all_take P zero xs h = tt
all_take P (suc k) [] h = tt
all_take P (suc k) (x ∷ xs) h = (h.0, all_take P k xs h.1)

pub part_items : (kind : ItemKind) (from n : ℕ) (items : List Value) → AreItems kind items → AreItems kind (part from n items)
part_items kind from n items h = all_take (IsItem kind) n (drop from items) (all_drop (IsItem kind) from items h)

pub length-part : (from n : ℕ) (items : List Value) → from + n ≤ length items → length (part from n items) ≡ n
length-part from n items h = length-take-le n (drop from items) (rw (length-drop from items) (omega arith))

-- ---- integers

pub stored_whole : (min : ℤ) (zs : List ℤ) → map (stored min) (map whole zs) ≡ map (int_gap min) zs
unfolding stored
stored_whole min [] = refl
stored_whole min (z ∷ zs) = ap (λ ns. int_gap min z ∷ ns) (stored_whole min zs)

pub bytes_of_ints : (min max : ℤ) (zs : List ℤ) → field_bytes (integers min max) (map whole zs) ≡ packed (width min max) (map (int_gap min) zs)
unfolding field_bytes
bytes_of_ints min max zs = ap (packed (width min max)) (stored_whole min zs)

pub length-ints : (min max : ℤ) (zs : List ℤ) → length (field_bytes (integers min max) (map whole zs)) ≡ (width min max * length zs + 7) / 8
length-ints min max zs =
    ap (λ (b : List ℕ). length b) (bytes_of_ints min max zs) ∙ length-packed (width min max) (map (int_gap min) zs) ∙ ap (λ n. (width min max * n + 7) / 8) (length-map zs (int_gap min))

item_limits : (min max : ℤ) (zs : List ℤ) (k : ℕ) → AreItems (integers min max) (map whole zs) → k < length zs → (min ≤ℤ get_or zs k (pos 0)) × (get_or zs k (pos 0) ≤ℤ max)
item_limits min max [] k h g = absurd (omega arith)
item_limits min max (z ∷ zs) zero h g = h.0
item_limits min max (z ∷ zs) (suc k) h g = item_limits min max zs k h.1 (omega arith)

gap_below : (n p : ℕ) (min z : ℤ) → min +ℤ pos n ≡ z → n < p → (z -ℤ min) <ℤ pos p
gap_below n p min z e h = omega (arith, ints)

pub can_pack : (min max : ℤ) (w : ℕ) (zs : List ℤ) (old out : List ℕ) → IsKind (integers min max) → w ≡ width min max → w ≤ 64 → AreItems (integers min max) (map whole zs)
    → length old ≡ length (field_bytes (integers min max) (map whole zs)) → length out ≡ length old → CanPack zs min w 0 out
can_pack min max w zs old out kind is narrow items size same =
    let count : length old ≡ (width min max * length zs + 7) / 8 = size ∙ length-ints min max zs in
    record {
      phase_in_byte = omega arith;
      width_in_word = narrow;
      least = λ k h. (item_limits min max zs k items h).0;
      most = λ k h.
          let limits = item_limits min max zs k items h in
          let within : int_gap min (get_or zs k (pos 0)) ≤ int_gap min max = gap-le min (get_or zs k (pos 0)) max limits.0 limits.1 in
          let wide : int_gap min max < 2 ^ width min max = width-holds min max kind.1 in
          let powers : 2 ^ width min max ≡ 2 ^ w = ap (λ v. 2 ^ v) (sym is) in
          gap_below (int_gap min (get_or zs k (pos 0))) (2 ^ w) min (get_or zs k (pos 0)) (gap-back min (get_or zs k (pos 0)) limits.0) (omega arith);
      room =
          let bits : (w * length zs + 7) / 8 ≡ length out = ap (λ v. (v * length zs + 7) / 8) is ∙ sym count ∙ sym same in
          room_for w (length zs) (length out) bits;
    }
  where
    room_for : (w n size : ℕ) → (w * n + 7) / 8 ≡ size → 0 + n * w ≤ 8 * size
    room_for w n size e =
        let turned : n * w ≡ w * n = grind arith in
        omega arith

zero_at : (n k : ℕ) → get_or {A = ℕ} (replicate n 0) k 0 ≡ 0
zero_at zero k = refl
zero_at (suc n) zero = refl
zero_at (suc n) (suc k) = zero_at n k

zero_div : (z p : ℕ) → z ≡ 0 → z / p % 2 ≡ 0
zero_div z p e = ap (λ (x : ℕ). x / p % 2) e ∙ ap (λ (x : ℕ). x % 2) (zero-div p)

bit-zero : (n t : ℕ) → bit (replicate n 0) t ≡ 0
unfolding bit
bit-zero n t = zero_div (get_or {A = ℕ} (replicate n 0) (t / 8) 0) (2 ^ (t % 8)) (zero_at n (t / 8))

pub ints_written : (min max : ℤ) (w : ℕ) (zs : List ℤ) (old zeros new : List ℕ) → w ≡ width min max → zeros ≡ replicate (length old) 0
    → length old ≡ length (field_bytes (integers min max) (map whole zs)) → Packed zs min w 0 zeros new → ((k : ℕ) → get_or new k 0 < 256) → new ≡ field_bytes (integers min max) (map whole zs)
ints_written min max w zs old zeros new is none size done bytes =
    let count : length old ≡ (w * length zs + 7) / 8 = size ∙ length-ints min max zs ∙ ap (λ v. (v * length zs + 7) / 8) (sym is) in
    let long : length zeros ≡ (w * length zs + 7) / 8 = ap (λ (b : List ℕ). length b) none ∙ length-replicate (length old) 0 ∙ count in
    packed-is zs min w zeros new done (λ t h. ap (λ (b : List ℕ). bit b t) none ∙ bit-zero (length old) t) long bytes
    ∙ ap (λ v. packed v (map (int_gap min) zs)) is
    ∙ sym (bytes_of_ints min max zs)

-- ---- words

pub packed-words : (k : ℕ) (ns : List ℕ) → AreBelow (8 * k) ns → packed (8 * k) ns ≡ flat_map (low_bytes k) ns
packed-words k [] h =
    let none : 8 * k * 0 ≡ 0 = grind arith in
    packed_is (8 * k) [] ∙ rw none (low_bytes-zero _)
packed-words k (n ∷ ns) h =
    packed-append (8 * k) k (n ∷ []) ns (h.0, tt) (one k)
    ∙ ap (λ (front : List ℕ). front ++ packed (8 * k) ns) (packed_is (8 * k) (n ∷ []) ∙ ap (λ m. low_bytes m (joined (8 * k) (n ∷ []))) (size k) ∙ ap (low_bytes k) (joined-cons (8 * k) n [] ∙ ap (λ x. n + 2 ^ (8 * k) * x) (joined-nil (8 * k)) ∙ last n (2 ^ (8 * k))))
    ∙ ap (λ (later : List ℕ). low_bytes k n ++ later) (packed-words k ns h.1)
  where
    one : (k : ℕ) → 8 * k * 1 ≡ 8 * k
    one k = grind arith

    size : (k : ℕ) → (8 * k * 1 + 7) / 8 ≡ k
    size k = let e : 8 * k * 1 ≡ 8 * k = one k in omega arith

    last : (n p : ℕ) → n + p * 0 ≡ n
    last n p = grind arith

pub stored_word : (ns : List ℕ) → map (stored (pos 0)) (map word ns) ≡ ns
unfolding stored
stored_word [] = refl
stored_word (n ∷ ns) = ap (λ ms. n ∷ ms) (stored_word ns)

pub bytes_of_words : (k : ℕ) (ns : List ℕ) → AreBelow (8 * k) ns → field_bytes (words (8 * k)) (map word ns) ≡ flat_map (low_bytes k) ns
unfolding field_bytes
bytes_of_words k ns h = ap (packed (8 * k)) (stored_word ns) ∙ packed-words k ns h

pub length-words : (k : ℕ) (ns : List ℕ) → length (field_bytes (words (8 * k)) (map word ns)) ≡ k * length ns
unfolding field_bytes
length-words k ns =
    ap (λ (ms : List ℕ). length (packed (8 * k) ms)) (stored_word ns) ∙ length-packed (8 * k) ns ∙ size k (length ns)
  where
    size : (k n : ℕ) → (8 * k * n + 7) / 8 ≡ k * n
    size k n = let e : 8 * k * n ≡ 8 * (k * n) = grind arith in omega arith

pub below_all : (w : ℕ) (ns : List ℕ) → ((k : ℕ) → get_or ns k 0 < 2 ^ w) → AreBelow w ns
below_all w [] h = tt
below_all w (n ∷ ns) h = (h 0, below_all w ns (λ k. h (suc k)))

-- ---- what is sliced

-- the part of a slice is the part of the items
pub sliced : {A : Type 0} (f : A → Value) (from n until : ℕ) (xs ys : List A) → xs ≡ ys → from + n ≤ until → map f (take (from + n - from) (drop from xs)) ≡ part from n (map f (take until ys))
sliced f from n until xs ys e h = ap (λ zs. map f (take (from + n - from) (drop from zs))) e ∙ part_map f from n until ys h

module _ (bytes ends given given_ends : List ℕ) (begin from n until : ℕ) (same : given ≡ bytes) (same_ends : given_ends ≡ ends) (here : begin ≡ begin_at 0 ends from) (there : from + n ≤ until) (few : until ≤ length ends) where
  -- the ends of a part
  pub ends_part : AreEnds (length bytes) 0 (take until ends) → AreEnds (length given) begin (take (from + n - from) (drop from given_ends))
  ends_part are =
      subst (λ (xs : List ℕ). AreEnds (length xs) begin (take (from + n - from) (drop from given_ends))) (sym same)
      (subst (λ b. AreEnds (length bytes) b (take (from + n - from) (drop from given_ends))) (sym here)
      (subst (λ (es : List ℕ). AreEnds (length bytes) (begin_at 0 ends from) (take (from + n - from) (drop from es))) (sym same_ends) (part_ends (length bytes) from n until ends there few are)))

  pub texts_part : strings_at given begin (take (from + n - from) (drop from given_ends)) ≡ part from n (strings_at bytes 0 (take until ends))
  texts_part =
      ap (λ (xs : List ℕ). strings_at xs begin (take (from + n - from) (drop from given_ends))) same
      ∙ ap (λ b. strings_at bytes b (take (from + n - from) (drop from given_ends))) here
      ∙ ap (λ (es : List ℕ). strings_at bytes (begin_at 0 ends from) (take (from + n - from) (drop from es))) same_ends
      ∙ part_strings bytes from n until ends there few

pub length-cut : {A : Type 0} (from n : ℕ) (xs : List A) → from + n ≤ length xs → length (take (from + n - from) (drop from xs)) ≡ n
length-cut from n xs h = ap (λ k. length (take k (drop from xs))) (same from n) ∙ length-take-le n (drop from xs) (rw (length-drop from xs) (omega arith))
  where
    same : (from n : ℕ) → from + n - from ≡ n
    same from n = omega arith

-- Bit fields and layouts: what is packed are the bytes that a layout has.
use Rattle.std.proofs.Common.{◌≡◌, ℕ, zero, suc, ◌+◌, ◌-◌, ◌*◌, ◌/◌, ◌%◌, ◌^◌, ◌<◌, ◌≤◌, List, [], ◌∷◌, length, map, take, get_or, ℤ, pos, negsuc, ◌-ℤ◌, refl, sym, ap, ◌∙◌, arith, inr}
use Rattle.std.specs.Prelude.{slice_index_or}
use Rattle.std.specs.Int.{int_gap}
use Rattle.std.proofs.lemmas.List.{take_more, take_all, length-map, length-take-le, get_or-map}
use Rattle.std.proofs.lemmas.Int.{ints}
use Rattle.e57_bits.specs.Bits.{bit, number}
use Rattle.e57_bits.proofs.BitLaws.{number-zero, number-suc, number-split, number-byte_first}
use Rattle.e57_layout.specs.Bytes.{low_bytes, joined, packed}
use Rattle.e57_layout.proofs.Laws.Numbers.{low_bytes-zero, low_bytes-suc, joined-nil, joined-cons, packed_is, number-cons, joined-append}
use Rattle.e57_lanes.specs.Unpack.{stored}
use Rattle.e57_lanes.specs.Pack.{Packed}

-- bits that are zero are no part of a number
pub number-none : (b : List ℕ) (s w : ℕ) → ((t : ℕ) → s ≤ t → bit b t ≡ 0) → number b s w ≡ 0
number-none b s zero none = number-zero b s
number-none b s (suc w) none =
    let front : number b s w ≡ 0 = number-none b s w none in
    let last : bit b (s + w) ≡ 0 = none (s + w) (omega arith) in
    number-suc b s w ∙ rw (front, last) (grind arith)

-- bytes are the lowest bytes of their number
pub low_bytes-number : (b : List ℕ) → ((k : ℕ) → get_or b k 0 < 256) → low_bytes (length b) (number b 0 (8 * length b)) ≡ b
low_bytes-number [] all = low_bytes-zero _
low_bytes-number (x ∷ xs) all =
    let rest : low_bytes (length xs) (number xs 0 (8 * length xs)) ≡ xs = low_bytes-number xs (λ k. all (suc k)) in
    let size : 8 * suc (length xs) ≡ 8 + 8 * length xs = omega arith in
    let here : number (x ∷ xs) 0 (8 + 8 * length xs) ≡ x + 256 * number (x ∷ xs) 8 (8 * length xs) = number-byte_first (x ∷ xs) 0 (8 * length xs) (all 0) in
    let next : number (x ∷ xs) 8 (8 * length xs) ≡ number xs 0 (8 * length xs) = number-cons x xs 0 (8 * length xs) in
    let below : x < 256 = all 0 in
    ap (λ n. low_bytes (suc (length xs)) (number (x ∷ xs) 0 n)) size
    ∙ ap (low_bytes (suc (length xs))) (here ∙ ap (λ n. x + 256 * n) next)
    ∙ low_bytes-suc (length xs) (x + 256 * number xs 0 (8 * length xs))
    ∙ first x (number xs 0 (8 * length xs)) (length xs) xs below rest
  where
    first : (x n k : ℕ) (xs : List ℕ) → x < 256 → low_bytes k n ≡ xs → ((x + 256 * n) % 256 ∷ low_bytes k ((x + 256 * n) / 256)) ≡ x ∷ xs
    first x n k xs below rest =
        let low : (x + 256 * n) % 256 ≡ x = omega arith in
        let high : (x + 256 * n) / 256 ≡ n = omega arith in
        rw (low, high, rest) refl

-- a number that is a difference
gap-number : (n : ℕ) (minimum z : ℤ) → pos n ≡ z -ℤ minimum → int_gap minimum z ≡ n
gap-number n (pos a) (pos b) e = let h : pos n ≡ pos b -ℤ pos a = e in omega (arith, ints)
gap-number n (pos a) (negsuc b) e = let h : pos n ≡ negsuc b -ℤ pos a = e in absurd (omega (arith, ints))
gap-number n (negsuc a) (pos b) e = let h : pos n ≡ pos b -ℤ negsuc a = e in omega (arith, ints)
gap-number n (negsuc a) (negsuc b) e = let h : pos n ≡ negsuc b -ℤ negsuc a = e in omega (arith, ints)

joined-one : (w x : ℕ) → joined w (x ∷ []) ≡ x
joined-one w x = joined-cons w x [] ∙ rw joined-nil (grind arith)

-- the first n numbers
numbers : (values : List ℤ) (minimum : ℤ) (width : ℕ) (b : List ℕ) (n : ℕ) → ((k : ℕ) → k < length values → pos (stored b 0 width k) ≡ slice_index_or values k (pos 0) -ℤ minimum)
    → n ≤ length values → number b 0 (width * n) ≡ joined width (take n (map (int_gap minimum) values))
numbers values minimum width b zero are h = rw joined-nil (ap (number b 0) (none width) ∙ number-zero b 0)
  where
    none : (w : ℕ) → w * 0 ≡ 0
    none w = grind arith
numbers values minimum width b (suc n) are h =
    let all : List ℕ = map (int_gap minimum) values in
    let front : number b 0 (width * n) ≡ joined width (take n all) = numbers values minimum width b n are (omega arith) in
    let there : n < length all = rw (length-map values (int_gap minimum)) (omega arith) in
    let is : get_or all n 0 ≡ number b (0 + n * width) width = get_or-map (int_gap minimum) values n (pos 0) 0 (omega arith) ∙ gap-number (stored b 0 width n) minimum (get_or values n (pos 0)) (are n (omega arith)) in
    let size : length (take n all) ≡ n = length-take-le n all (omega arith) in
    ap (number b 0) (grown width n)
    ∙ number-split b 0 (width * n) width
    ∙ rw front (ap (λ x. joined width (take n all) + 2 ^ (width * n) * x) (ap (λ s. number b s width) (place width n) ∙ sym is ∙ sym (joined-one width (get_or all n 0))))
    ∙ ap (λ k. joined width (take n all) + 2 ^ (width * k) * joined width (get_or all n 0 ∷ [])) (sym size)
    ∙ sym (joined-append width (take n all) (get_or all n 0 ∷ []))
    ∙ ap (joined width) (sym (take_more all n 0 there))
    ∙ ap (λ k. joined width (take k all)) (next n)
  where
    grown : (w n : ℕ) → w * suc n ≡ w * n + w
    grown w n = grind arith

    place : (w n : ℕ) → 0 + w * n ≡ 0 + n * w
    place w n = grind arith

    next : (n : ℕ) → n + 1 ≡ suc n
    next n = omega arith

-- what is packed over zeros are the items of so many bits
pub packed-is : (values : List ℤ) (minimum : ℤ) (width : ℕ) (old new : List ℕ)
    → Packed values minimum width 0 old new → ((t : ℕ) → length values * width ≤ t → bit old t ≡ 0) → length old ≡ (width * length values + 7) / 8
    → ((k : ℕ) → get_or new k 0 < 256) → new ≡ packed width (map (int_gap minimum) values)
packed-is values minimum width old new packed_items zeros size bytes =
    let all : List ℕ = map (int_gap minimum) values in
    let count : length all ≡ length values = length-map values (int_gap minimum) in
    let long : length new ≡ (width * length values + 7) / 8 = packed_items.same_length ∙ size in
    let used = width * length values in
    let least : used ≤ 8 * length new = omega arith in
    let front : number new 0 used ≡ joined width (take (length values) all) = numbers values minimum width new (length values) packed_items.numbers (omega arith) in
    let whole : take (length values) all ≡ all = take_all (length values) all (omega arith) in
    let behind : number new used (8 * length new - used) ≡ 0 =
    number-none new used (8 * length new - used) (λ t h. packed_items.others t (inr (past width (length values) t h)) ∙ zeros t (over width (length values) t h)) in
    let sum : used + (8 * length new - used) ≡ 8 * length new = omega arith in
    let value : number new 0 (8 * length new) ≡ joined width all =
    ap (number new 0) (sym sum)
    ∙ number-split new 0 used (8 * length new - used)
    ∙ rest (number new 0 used) (2 ^ used) (number new (0 + used) (8 * length new - used)) (joined width all) (front ∙ ap (joined width) whole) (ap (λ s. number new s (8 * length new - used)) (nothing used) ∙ behind) in
    sym (low_bytes-number new bytes)
    ∙ ap (low_bytes (length new)) value
    ∙ ap (λ n. low_bytes n (joined width all)) (long ∙ ap (λ n. (width * n + 7) / 8) (sym count))
    ∙ sym (packed_is width all)
  where
    past : (w n t : ℕ) → w * n ≤ t → 0 + n * w ≤ t
    past w n t h = grind arith

    over : (w n t : ℕ) → w * n ≤ t → n * w ≤ t
    over w n t h = grind arith

    nothing : (n : ℕ) → 0 + n ≡ n
    nothing n = omega arith

    rest : (a p b j : ℕ) → a ≡ j → b ≡ 0 → a + p * b ≡ j
    rest a p b j e g = rw (e, g) (grind arith)

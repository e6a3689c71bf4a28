-- Loops of the code, one step at a time.
use Rattle.std.proofs.Common.{◌≡◌, ℕ, suc, ◌+◌, ◌-◌, ◌*◌, ◌^◌, ◌<◌, ◌≤◌, List, [], ◌∷◌, ◌++◌, length, get_or, drop, Bool, Some, None, refl, sym, ap, ◌∙◌, arith, add-one, pow-suc, mul_comm, append_assoc, lit<}
use Rattle.std.specs.Prelude.{encode_utf8}
use Rattle.std.specs.Char.{digit_value}
use Rattle.std.proofs.Math.Nat.{mul-le-mul_left, pow-le-pow_right}
use Rattle.std.proofs.lemmas.List.{append-nil, drop_more, drop_all}
use Rattle.std.proofs.lemmas.Bool.{ne_eqb}
use Rattle.e57_pieces.specs.declared.piece.Attr.{Attr}
use Rattle.e57_pieces.specs.Words.{numeral_from}
use Rattle.e57_pieces.proofs.Laws.References.{no_reference}
use Rattle.e57_pieces.specs.Reading.{run, after, reference_at, parts_at, attr_at, attrs_at}

-- ---- numbers

pub numeral_more : (base n : ℕ) (digits : List ℕ) (i b : ℕ) → i < length digits → b ≡ get_or digits i 0 → numeral_from base n (drop i digits) ≡ numeral_from base (n * base + digit_value b) (drop (i + 1) digits)
unfolding numeral_from
numeral_more base n digits i b lt e = rw (drop_more digits i 0 lt, ← e) refl

pub numeral_done : (base n : ℕ) (digits : List ℕ) (i : ℕ) → length digits ≤ i → numeral_from base n (drop i digits) ≡ n
unfolding numeral_from
numeral_done base n digits i le = rw (drop_all i digits le) refl

pub numeral_fits : (base n d i : ℕ) → base ≤ 16 → d ≤ 36 → i < 10 → n < 64 ^ i → (n * base + d < 64 ^ (i + 1)) × (n * base + d < 2 ^ 64)
numeral_fits base n d i low small few below =
    let product : n * base ≤ n * 16 = mul-le-mul_left n low in
    let next : 64 ^ (i + 1) ≡ 64 * 64 ^ i = rw (add-one, pow-suc) (mul_comm (64 ^ i) 64) in
    let within : i + 1 ≤ 10 = omega arith in
    let most : 64 ^ (i + 1) ≤ 64 ^ 10 = pow-le-pow_right {n = 64} (lit< tt) {i = i + 1} {j = 10} within in
    (omega (arith, product, next), omega (arith, product, next, most))

-- ---- text with references

abbrev pub with_front : List ℕ → List ℕ × List ℕ → List ℕ × List ℕ
with_front front x = (front ++ x.0, x.1)

pub parts_go_on : (plain : ℕ → Bool) (front : List ℕ) (count i : ℕ) (bytes : List ℕ) (c : ℕ) (next : List ℕ) (total : List ℕ × List ℕ) → i < count → Some (c, next) ≡ reference_at (after plain bytes)
    → with_front front (parts_at plain (count - i) bytes) ≡ total → with_front ((front ++ run plain bytes) ++ encode_utf8 c) (parts_at plain (count - (i + 1)) next) ≡ total
unfolding parts_at
parts_go_on plain front count i bytes c next total lt found so_far =
    let k : count - i ≡ suc (count - (i + 1)) = omega arith in
    let one : with_front front (parts_at plain (count - i) bytes) ≡ with_front ((front ++ run plain bytes) ++ encode_utf8 c) (parts_at plain (count - (i + 1)) next) =
    rw (k, ← found) (ap (λ (x : List ℕ). (x, (parts_at plain (count - (i + 1)) next).1)) (simp append_assoc)) in
    sym one ∙ so_far

pub parts_end : (plain : ℕ → Bool) (front : List ℕ) (count i : ℕ) (bytes : List ℕ) (total : List ℕ × List ℕ) → i < count → None ≡ reference_at (after plain bytes)
    → with_front front (parts_at plain (count - i) bytes) ≡ total → (front ++ run plain bytes, after plain bytes) ≡ total
unfolding parts_at
parts_end plain front count i bytes total lt found so_far =
    let k : count - i ≡ suc (count - (i + 1)) = omega arith in
    let one : with_front front (parts_at plain (count - i) bytes) ≡ (front ++ run plain bytes, after plain bytes) = rw (k, ← found) refl in
    sym one ∙ so_far

pub parts_done : (plain : ℕ → Bool) (front : List ℕ) (count i : ℕ) (bytes : List ℕ) (total : List ℕ × List ℕ) → count ≤ i
    → with_front front (parts_at plain (count - i) bytes) ≡ total → (front, bytes) ≡ total
unfolding parts_at
parts_done plain front count i bytes total le so_far =
    let k : count - i ≡ 0 = omega arith in
    let one : with_front front (parts_at plain (count - i) bytes) ≡ (front, bytes) = rw k (ap (λ (x : List ℕ). (x, bytes)) (append-nil front)) in
    sym one ∙ so_far

-- where the text begins with no `&`, no reference is read
pub none_of_empty : (text : List ℕ) → length text < 1 → None ≡ reference_at text
none_of_empty [] lt = sym (no_reference [] tt)
none_of_empty (b ∷ bs) lt = absurd (omega arith)

pub none_of_other : (text : List ℕ) → (get_or text 0 0 ≡ 38 → ⊥) → None ≡ reference_at text
none_of_other [] other = sym (no_reference [] tt)
none_of_other (b ∷ bs) other = sym (no_reference (b ∷ bs) (ne_eqb b 38 other))

-- ---- attributes

abbrev pub with_attrs : List Attr → List Attr × List ℕ → List Attr × List ℕ
with_attrs front x = (front ++ x.0, x.1)

pub attrs_go_on : (front : List Attr) (count i : ℕ) (bytes : List ℕ) (attr : Attr) (next : List ℕ) (total : List Attr × List ℕ) → i < count → attr_at bytes ≡ Some (attr, next)
    → with_attrs front (attrs_at (count - i) bytes) ≡ total → with_attrs (front ++ attr ∷ []) (attrs_at (count - (i + 1)) next) ≡ total
unfolding attrs_at
attrs_go_on front count i bytes attr next total lt found so_far =
    let k : count - i ≡ suc (count - (i + 1)) = omega arith in
    let one : with_attrs front (attrs_at (count - i) bytes) ≡ with_attrs (front ++ attr ∷ []) (attrs_at (count - (i + 1)) next) =
    rw (k, found) (ap (λ (x : List Attr). (x, (attrs_at (count - (i + 1)) next).1)) (simp append_assoc)) in
    sym one ∙ so_far

pub attrs_end : (front : List Attr) (count i : ℕ) (bytes : List ℕ) (total : List Attr × List ℕ) → i < count → attr_at bytes ≡ None
    → with_attrs front (attrs_at (count - i) bytes) ≡ total → (front, bytes) ≡ total
unfolding attrs_at
attrs_end front count i bytes total lt found so_far =
    let k : count - i ≡ suc (count - (i + 1)) = omega arith in
    let one : with_attrs front (attrs_at (count - i) bytes) ≡ (front, bytes) = rw (k, found) (ap (λ (x : List Attr). (x, bytes)) (append-nil front)) in
    sym one ∙ so_far

pub attrs_done : (front : List Attr) (count i : ℕ) (bytes : List ℕ) (total : List Attr × List ℕ) → count ≤ i
    → with_attrs front (attrs_at (count - i) bytes) ≡ total → (front, bytes) ≡ total
unfolding attrs_at
attrs_done front count i bytes total le so_far =
    let k : count - i ≡ 0 = omega arith in
    let one : with_attrs front (attrs_at (count - i) bytes) ≡ (front, bytes) = rw k (ap (λ (x : List Attr). (x, bytes)) (append-nil front)) in
    sym one ∙ so_far

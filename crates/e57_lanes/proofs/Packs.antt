-- Bits put one by one, by bytes, and by words.
use Rattle.std.proofs.Common.{◌≡◌, ◌≢◌, ℕ, zero, suc, ◌+◌, ◌-◌, ◌*◌, ◌/◌, ◌%◌, ◌^◌, ◌<◌, ◌≤◌, List, length, get_or, set, bit_and, bit_or, if◌then◌else◌, refl, sym, ap, ap₂, ◌∙◌, arith, lit<, inl, inr, add-zero, add-one, subst, nat_eq}
use Rattle.std.proofs.Math.Nat.{div-eq_of_lt, mul-mod_left, pow-le-pow_right}
use Rattle.std.proofs.lemmas.Nat.{mod_below, or_shifted, or_comm, mod-pow-add, pow-add, shl-shr, shr_below, pow_pos, mul-add-lt, and_mask, or_lt, same_from_place}
use Rattle.std.proofs.lemmas.List.{get_or-set_same, get_or-set_other}
use Rattle.std.proofs.lemmas.Bool.{cases_lt, cases_eq}
use Rattle.e57_bits.specs.Bits.{bit, number}
use Rattle.e57_bits.proofs.BitLaws.{number-zero, number-suc, number-split, number-lt, number-byte, bit-byte}
use Rattle.e57_lanes.specs.PackSteps.{SameBits, joined}

-- the same bits are the same number
pub number-same : (a b : List ℕ) (t w : ℕ) → ((k : ℕ) → t ≤ k → k < t + w → bit a k ≡ bit b k) → number a t w ≡ number b t w
number-same a b t zero h = number-zero a t ∙ sym (number-zero b t)
number-same a b t (suc w) h =
    rw (number-suc a t w, number-suc b t w, number-same a b t w (λ k l r. h k l (omega arith)), h (t + w) (omega arith) (omega arith)) refl

-- a number before what is changed
pub number-before : (a b : List ℕ) (from until t w : ℕ) → SameBits from until a b → t + w ≤ from → number b t w ≡ number a t w
number-before a b from until t w same h = number-same b a t w (λ k l r. same k (inl (omega arith)))

pub same-join : (a b c : List ℕ) (from mid until : ℕ) → SameBits from mid a b → SameBits mid until b c → from ≤ mid → mid ≤ until → SameBits from until a c
same-join a b c from mid until u v h g t (inl l) = v t (inl (omega arith)) ∙ u t (inl l)
same-join a b c from mid until u v h g t (inr r) = v t (inr r) ∙ u t (inr (omega arith))

-- a byte that is set
pub bit-set_same : (xs : List ℕ) (i p y : ℕ) → i < length xs → p < 8 → bit (set xs i y) (8 * i + p) ≡ y / 2 ^ p % 2
bit-set_same xs i p y h g = bit-byte (set xs i y) i p g ∙ ap (λ x. x / 2 ^ p % 2) (get_or-set_same xs i y 0 h)

pub bit-set_other : (xs : List ℕ) (i t y : ℕ) → t / 8 ≢ i → bit (set xs i y) t ≡ bit xs t
bit-set_other xs i t y h =
    let place : t ≡ 8 * (t / 8) + t % 8 = omega arith in
    let small : t % 8 < 8 = mod_below t 8 (lit< tt) in
    ap (bit (set xs i y)) place
    ∙ bit-byte (set xs i y) (t / 8) (t % 8) small
    ∙ ap (λ x. x / 2 ^ (t % 8) % 2) (get_or-set_other xs i (t / 8) y 0 h)
    ∙ sym (bit-byte xs (t / 8) (t % 8) small)
    ∙ ap (bit xs) (sym place)

-- a byte of which one bit is changed
pub one_bit : (xs : List ℕ) (i p y : ℕ) → i < length xs → p < 8 → ((q : ℕ) → q < 8 → q ≢ p → y / 2 ^ q % 2 ≡ get_or xs i 0 / 2 ^ q % 2)
    → SameBits (8 * i + p) (8 * i + p + 1) xs (set xs i y)
one_bit xs i p y h g rest t apart = elim (cases_eq (t / 8) i) [
  | inl same ↦ inside same
  | inr other ↦ bit-set_other xs i t y other
]
  where
    inside : t / 8 ≡ i → bit (set xs i y) t ≡ bit xs t
    inside same =
        let place : t ≡ 8 * i + t % 8 = omega arith in
        let small : t % 8 < 8 = mod_below t 8 (lit< tt) in
        ap (bit (set xs i y)) place
        ∙ bit-set_same xs i (t % 8) y h small
        ∙ rest (t % 8) small (λ e. elim apart [ inl l ↦ omega arith | inr r ↦ omega arith ])
        ∙ sym (bit-byte xs i (t % 8) small)
        ∙ ap (bit xs) (sym place)

-- a byte whose lower bits are all known
pub low_byte : (word i : ℕ) → word % 2 ^ (8 * i) + 2 ^ (8 * i) * (word / 2 ^ (8 * i) % 256) ≡ word % 2 ^ (8 * (i + 1))
low_byte word i =
    let e : 8 * (i + 1) ≡ 8 + 8 * i = omega arith in
    turned (word % 2 ^ (8 * i)) (2 ^ (8 * i)) (word / 2 ^ (8 * i) % 256)
    ∙ sym (mod-pow-add word 8 (8 * i))
    ∙ ap (λ m. word % 2 ^ m) (sym e)
  where
    turned : (a p c : ℕ) → a + p * c ≡ c * p + a
    turned a p c = grind arith

-- a word and a number above it, in 64 bits: what is filled and what is left
pub filled_over : (word held n : ℕ) → word < 2 ^ held → held < 64
    → bit_or word (n * 2 ^ held % 2 ^ 64) + 2 ^ 64 * (n / 2 ^ (64 - held)) ≡ word + 2 ^ held * n
filled_over word held n fits small =
    let sum_of : (64 - held) + held ≡ 64 = omega arith in
    let lower : n * 2 ^ held % 2 ^ 64 ≡ n % 2 ^ (64 - held) * 2 ^ held =
    ap (λ m. n * 2 ^ held % 2 ^ m) (sym sum_of)
    ∙ mod-pow-add (n * 2 ^ held) (64 - held) held
    ∙ ap₂ (λ y z. y % 2 ^ (64 - held) * 2 ^ held + z) (shl-shr n held) (mul-mod_left n (2 ^ held))
    ∙ add-zero (n % 2 ^ (64 - held) * 2 ^ held) in
    let joined : bit_or word (n * 2 ^ held % 2 ^ 64) ≡ n % 2 ^ (64 - held) * 2 ^ held + word =
    ap (bit_or word) lower ∙ or_comm word (n % 2 ^ (64 - held) * 2 ^ held) ∙ or_shifted (n % 2 ^ (64 - held)) held word fits in
    let power : 2 ^ 64 ≡ 2 ^ (64 - held) * 2 ^ held = ap (λ m. 2 ^ m) (sym sum_of) ∙ pow-add 2 (64 - held) held in
    let split : n / 2 ^ (64 - held) * 2 ^ (64 - held) + n % 2 ^ (64 - held) ≡ n = omega arith in
    ap₂ (λ x p. x + p * (n / 2 ^ (64 - held))) joined power
    ∙ regroup (n % 2 ^ (64 - held)) (2 ^ held) word (2 ^ (64 - held)) (n / 2 ^ (64 - held))
    ∙ ap (λ m. word + 2 ^ held * m) split
  where
    regroup : (r p w q d : ℕ) → r * p + w + q * p * d ≡ w + p * (d * q + r)
    regroup r p w q d = grind arith

pub filled_within : (word held n width : ℕ) → word < 2 ^ held → n < 2 ^ width → held + width < 64
    → bit_or word (n * 2 ^ held % 2 ^ 64) ≡ word + 2 ^ held * n
filled_within word held n width fits small room =
    let power : 2 ^ width ≤ 2 ^ (64 - held) = pow-le-pow_right {n = 2} (lit< tt) {i = width} {j = 64 - held} (omega arith) in
    let none : n / 2 ^ (64 - held) ≡ 0 = div-eq_of_lt (below n (2 ^ width) (2 ^ (64 - held)) small power) in
    sym (add-zero (bit_or word (n * 2 ^ held % 2 ^ 64)))
    ∙ ap (λ d. bit_or word (n * 2 ^ held % 2 ^ 64) + 2 ^ 64 * d) (sym none)
    ∙ filled_over word held n fits (omega arith)
  where
    below : (a b c : ℕ) → a < b → b ≤ c → a < c
    below a b c h g = omega arith

-- what a word and a number above it are below
pub filled-lt : (word held n width : ℕ) → word < 2 ^ held → n < 2 ^ width → word + 2 ^ held * n < 2 ^ (held + width)
filled-lt word held n width fits small = rw (pow-add 2 held width) (within word (2 ^ held) n (2 ^ width) fits small)
  where
    within : (a p b q : ℕ) → a < p → b < q → a + p * b < p * q
    within a p b q h g = let e = mul-add-lt b p a q g h in grind (arith, e)

-- what is left of a number
pub left-lt : (n width held : ℕ) → n < 2 ^ width → held < 64 → 64 ≤ held + width → n / 2 ^ (64 - held) < 2 ^ (held + width - 64)
left-lt n width held small h g =
    let e : width ≡ (held + width - 64) + (64 - held) = omega arith in
    let fits : n < 2 ^ ((held + width - 64) + (64 - held)) = subst (λ m. n < 2 ^ m) e small in
    shr_below n (held + width - 64) (64 - held) fits

-- the lowest bit, tested and chosen
pub bit_value : (x : ℕ) → (if nat_eq (bit_and x 1) 1 then 1 else 0) ≡ x % 2
bit_value x = ap (λ y. if nat_eq y 1 then 1 else 0) (and_mask x 1) ∙ chosen (x % 2) (mod_below x 2 (lit< tt))
  where
    chosen : (y : ℕ) → y < 2 → (if nat_eq y 1 then 1 else 0) ≡ y
    chosen zero h = refl
    chosen (suc zero) h = refl
    chosen (suc (suc y)) h = absurd (omega arith)

-- one bit more of a number
pub bit_more : (old new : List ℕ) (t j m whole v : ℕ) → number old t j ≡ whole % 2 ^ j → SameBits m (m + 1) old new → bit new m ≡ v → v ≡ whole / 2 ^ j % 2 → m ≡ t + j
    → number new t (j + 1) ≡ whole % 2 ^ (j + 1)
bit_more old new t j m whole v e same here value at =
    let top : bit new (t + j) ≡ whole / 2 ^ j % 2 = ap (bit new) (sym at) ∙ here ∙ value in
    ap (number new t) (add-one j)
    ∙ number-suc new t j
    ∙ ap₂ (λ n c. n + 2 ^ j * c) (number-before old new m (m + 1) t j same (omega arith) ∙ e) top
    ∙ turned (whole % 2 ^ j) (2 ^ j) (whole / 2 ^ j % 2)
    ∙ sym (mod-pow-add whole 1 j)
    ∙ ap (λ m. whole % 2 ^ m) (omega arith)
  where
    turned : (a p c : ℕ) → a + p * c ≡ c * p + a
    turned a p c = grind arith

-- one byte more of a number
pub byte_same : (xs : List ℕ) (i y : ℕ) → SameBits (8 * i) (8 * (i + 1)) xs (set xs i y)
byte_same xs i y t apart = bit-set_other xs i t y (λ e. elim apart [ inl l ↦ omega arith | inr r ↦ omega arith ])

pub byte_more : (out : List ℕ) (at i word : ℕ) → number out (8 * at) (8 * i) ≡ word % 2 ^ (8 * i) → at + i < length out
    → number (set out (at + i) (bit_and (word / 2 ^ (8 * i)) 255)) (8 * at) (8 * (i + 1)) ≡ word % 2 ^ (8 * (i + 1))
byte_more out at i word e room =
    let byte = bit_and (word / 2 ^ (8 * i)) 255 in
    let new = set out (at + i) byte in
    let small : byte ≡ word / 2 ^ (8 * i) % 256 = and_mask (word / 2 ^ (8 * i)) 8 in
    let stands : get_or new (at + i) 0 ≡ byte = get_or-set_same out (at + i) byte 0 room in
    let bound : get_or new (at + i) 0 < 256 = rw (stands, small) (mod_below (word / 2 ^ (8 * i)) 256 (lit< tt)) in
    let top : number new (8 * at + 8 * i) 8 ≡ word / 2 ^ (8 * i) % 256 = ap (λ t. number new t 8) (omega arith) ∙ number-byte new (at + i) bound ∙ stands ∙ small in
    let rest : number new (8 * at) (8 * i) ≡ word % 2 ^ (8 * i) = number-before out new (8 * (at + i)) (8 * (at + i + 1)) (8 * at) (8 * i) (byte_same out (at + i) byte) (omega arith) ∙ e in
    ap (number new (8 * at)) (omega arith)
    ∙ number-split new (8 * at) (8 * i) 8
    ∙ ap₂ (λ n c. n + 2 ^ (8 * i) * c) rest top
    ∙ low_byte word i

-- a full word is put
pub filled-64 : (word held n : ℕ) → word < 2 ^ held → held < 64 → bit_or word (n * 2 ^ held % 2 ^ 64) < 2 ^ 64
filled-64 word held n fits small =
    let power : 2 ^ held ≤ 2 ^ 64 = pow-le-pow_right {n = 2} (lit< tt) {i = held} {j = 64} (omega arith) in
    or_lt 64 word (n * 2 ^ held % 2 ^ 64) (omega arith) (mod_below (n * 2 ^ held) (2 ^ 64) (lit< tt))

-- nothing is put
pub none_put : (out : List ℕ) (place x : ℕ) → number out (8 * place) (8 * (place - place)) + 2 ^ (8 * (place - place)) * x ≡ x
none_put out place x =
    let e : place - place ≡ 0 = omega arith in
    rw (e, number-zero out (8 * place)) (omega arith)

-- what a number adds to the bits so far
pub joined_more : (old new : List ℕ) (f : ℕ → ℕ) (at place word held place' word' w j n : ℕ)
    → at ≤ place → 8 * place + held ≡ 8 * at + j * w
    → number old (8 * at) (8 * (place - at)) + 2 ^ (8 * (place - at)) * word ≡ joined f w j
    → place ≤ place' → SameBits (8 * place) (8 * place') old new
    → number new (8 * place) (8 * (place' - place)) + 2 ^ (8 * (place' - place)) * word' ≡ word + 2 ^ held * n → n ≡ f j
    → number new (8 * at) (8 * (place' - at)) + 2 ^ (8 * (place' - at)) * word' ≡ joined f w (j + 1)
unfolding joined
joined_more old new f at place word held place' word' w j n onward counted so_far further same added value =
    let q : 8 * (place' - at) ≡ 8 * (place - at) + 8 * (place' - place) = omega arith in
    let begin : 8 * at + 8 * (place - at) ≡ 8 * place = omega arith in
    let shift : 8 * (place - at) + held ≡ j * w = omega arith in
    let front : number new (8 * at) (8 * (place - at)) ≡ number old (8 * at) (8 * (place - at)) = number-before old new (8 * place) (8 * place') (8 * at) (8 * (place - at)) same (omega arith) in
    ap (λ m. number new (8 * at) m + 2 ^ m * word') q
    ∙ ap₂ (λ a b. a + b * word') (number-split new (8 * at) (8 * (place - at)) (8 * (place' - place))) (pow-add 2 (8 * (place - at)) (8 * (place' - place)))
    ∙ ap₂ (λ a t. a + 2 ^ (8 * (place - at)) * number new t (8 * (place' - place)) + 2 ^ (8 * (place - at)) * 2 ^ (8 * (place' - place)) * word') front begin
    ∙ gathered (number old (8 * at) (8 * (place - at))) (2 ^ (8 * (place - at))) (number new (8 * place) (8 * (place' - place))) (2 ^ (8 * (place' - place))) word' (word + 2 ^ held * n) added
    ∙ spread (number old (8 * at) (8 * (place - at))) (2 ^ (8 * (place - at))) word (2 ^ held) n
    ∙ ap₂ (λ a b. a + b * n) so_far (sym (pow-add 2 (8 * (place - at)) held) ∙ ap (λ m. 2 ^ m) shift)
    ∙ ap (λ m. joined f w j + 2 ^ (j * w) * m) value
    ∙ ap (joined f w) (sym (add-one j))
  where
    gathered : (a p b q c x : ℕ) → b + q * c ≡ x → a + p * b + p * q * c ≡ a + p * x
    gathered a p b q c x e = rw (← e) (grind arith)

    spread : (a p x h m : ℕ) → a + p * (x + h * m) ≡ a + p * x + p * h * m
    spread a p x h m = grind arith

-- the last bits, and the whole
pub joined_end : (old new : List ℕ) (f : ℕ → ℕ) (at place word held w : ℕ)
    → at ≤ place → 8 * place + held ≡ 8 * at + 8 * w
    → number old (8 * at) (8 * (place - at)) + 2 ^ (8 * (place - at)) * word ≡ joined f w 8
    → SameBits (8 * place) (8 * (place + held / 8)) old new → number new (8 * place) (8 * (held / 8)) ≡ word
    → number new (8 * at) (8 * w) ≡ joined f w 8
joined_end old new f at place word held w onward counted so_far same put =
    let q : 8 * w ≡ 8 * (place - at) + 8 * (held / 8) = omega arith in
    let begin : 8 * at + 8 * (place - at) ≡ 8 * place = omega arith in
    ap (number new (8 * at)) q
    ∙ number-split new (8 * at) (8 * (place - at)) (8 * (held / 8))
    ∙ ap₂ (λ a t. a + 2 ^ (8 * (place - at)) * number new t (8 * (held / 8)))
    (number-before old new (8 * place) (8 * (place + held / 8)) (8 * at) (8 * (place - at)) same (omega arith)) begin
    ∙ ap (λ x. number old (8 * at) (8 * (place - at)) + 2 ^ (8 * (place - at)) * x) put
    ∙ so_far

pub joined-lt : (f : ℕ → ℕ) (w n : ℕ) → ((j : ℕ) → j < n → f j < 2 ^ w) → joined f w n < 2 ^ (n * w)
unfolding joined
joined-lt f w zero h = omega (arith, pow_pos (zero * w))
joined-lt f w (suc n) h =
    let e : suc n * w ≡ n * w + w = omega arith in
    rw e (filled-lt (joined f w n) (n * w) (f n) w (joined-lt f w n (λ j g. h j (omega arith))) (h n (omega arith)))

commuted : (a p c : ℕ) → c * p + a ≡ a + p * c
commuted a p c = grind arith

-- each of the numbers that are joined
pub joined_field : (b : List ℕ) (t : ℕ) (f : ℕ → ℕ) (w n : ℕ) → ((j : ℕ) → j < n → f j < 2 ^ w) → number b t (n * w) ≡ joined f w n
    → (j : ℕ) → j < n → number b (t + j * w) w ≡ f j
unfolding joined
joined_field b t f w zero h e j g = absurd (omega arith)
joined_field b t f w (suc n) h e j g = elim (cases_lt j n) [
  | inl below ↦ joined_field b t f w n (λ k l. h k (omega arith)) lower j below
  | inr last ↦ let same : j ≡ n = omega arith in rw same upper
]
  where
    split : number b t (n * w) + 2 ^ (n * w) * number b (t + n * w) w ≡ joined f w n + 2 ^ (n * w) * f n
    split = sym (number-split b t (n * w) w) ∙ ap (number b t) (omega arith) ∙ e

    parts : (number b (t + n * w) w ≡ f n) × (number b t (n * w) ≡ joined f w n)
    parts = same_from_place (number b (t + n * w) w) (number b t (n * w)) (f n) (joined f w n) (2 ^ (n * w)) (number-lt b t (n * w))
        (joined-lt f w n (λ k l. h k (omega arith))) (commuted (number b t (n * w)) (2 ^ (n * w)) (number b (t + n * w) w) ∙ split ∙ sym (commuted (joined f w n) (2 ^ (n * w)) (f n)))

    lower : number b t (n * w) ≡ joined f w n
    lower = parts.1

    upper : number b (t + n * w) w ≡ f n
    upper = parts.0

pub same_at : (a b : List ℕ) (from until from' until' : ℕ) → SameBits from until a b → from ≡ from' → until ≡ until' → SameBits from' until' a b
same_at a b from until from' until' same e g t (inl l) = same t (inl (omega arith))
same_at a b from until from' until' same e g t (inr r) = same t (inr (omega arith))

pub joined_none : (f : ℕ → ℕ) (w : ℕ) → 0 ≡ joined f w 0
unfolding joined
joined_none f w = refl

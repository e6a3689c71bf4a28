-- Laws of bits and numbers in a list of bytes.
use Rattle.std.proofs.Common.{◌≡◌, ℕ, zero, suc, ◌+◌, ◌*◌, ◌/◌, ◌%◌, ◌^◌, ◌<◌, ◌≤◌, List, length, take, drop, get_or, refl, sym, ap, length-take, length-drop, ◌∙◌, arith, add-zero, add-suc, one-add, lit≤, lit<, get_or-take, get_or-drop}
use Rattle.std.proofs.Math.Nat.{pow-suc, mod-one, mod-eq_of_lt}
use Rattle.std.proofs.lemmas.Nat.{mod_below, mod-pow-add, pow-add, from_le_bytes-to_le_bytes_4, from_le_bytes-to_le_bytes_8}
use Rattle.std.specs.Int.{bytes_low_first, from_le_bytes, to_le_bytes, w32, w64}
use Rattle.e57_bits.specs.Bits.{bit, number, le}

-- a bit is 0 or 1
pub bit-lt : (b : List ℕ) (t : ℕ) → bit b t < 2
unfolding bit
bit-lt b t = omega arith

-- no bits give the number 0
pub number-zero : (b : List ℕ) (t : ℕ) → number b t 0 ≡ 0
unfolding number
number-zero b t = refl

-- one bit more, at the top
pub number-suc : (b : List ℕ) (t w : ℕ) → number b t (suc w) ≡ number b t w + 2 ^ w * bit b (t + w)
unfolding number
number-suc b t w = refl

-- w bits give a number below 2 ^ w
pub number-lt : (b : List ℕ) (t w : ℕ) → number b t w < 2 ^ w
number-lt b t zero = rw number-zero (omega arith)
number-lt b t (suc w) = rw (number-suc b t w, pow-suc 2 w) (below (number b t w) (2 ^ w) (bit b (t + w)) (number-lt b t w) (bit-lt b (t + w)))
  where
    below : (n p c : ℕ) → n < p → c < 2 → n + p * c < p * 2
    below n p zero h g = omega arith
    below n p (suc zero) h g = omega arith
    below n p (suc (suc c)) h g = absurd (omega arith)

-- v bits and then w bits: the later ones are the higher
pub number-split : (b : List ℕ) (t v w : ℕ) → number b t (v + w) ≡ number b t v + 2 ^ v * number b (t + v) w
number-split b t v zero = rw (add-zero, number-zero b (t + v)) (omega arith)
number-split b t v (suc w) =
    let place : t + (v + w) ≡ t + v + w = omega arith in
    rw (add-suc, number-suc b t (v + w), number-suc b (t + v) w, number-split b t v w, place, pow-add 2 v w)
    (regroup (number b t v) (2 ^ v) (number b (t + v) w) (2 ^ w) (bit b (t + v + w)))
  where
    regroup : (n p m q c : ℕ) → n + p * m + p * q * c ≡ n + p * (m + q * c)
    regroup n p m q c = grind arith

-- a bit within the first n bytes is a bit of those
pub bit-take : (b : List ℕ) (n t : ℕ) → t < 8 * n → bit (take n b) t ≡ bit b t
unfolding bit
bit-take b n t h = let within : t / 8 < n = omega arith in rw get_or-take

-- a number within the first n bytes is a number of those
pub number-take : (b : List ℕ) (n t w : ℕ) → t + w ≤ 8 * n → number (take n b) t w ≡ number b t w
number-take b n t zero h = number-zero (take n b) t ∙ sym (number-zero b t)
number-take b n t (suc w) h =
    let lower : number (take n b) t w ≡ number b t w = number-take b n t w (omega arith) in
    let top : bit (take n b) (t + w) ≡ bit b (t + w) = bit-take b n (t + w) (omega arith) in
    rw (number-suc (take n b) t w, number-suc b t w, lower, top)

-- bit t after the first k bytes
pub bit-drop : (b : List ℕ) (k t : ℕ) → bit (drop k b) t ≡ bit b (8 * k + t)
unfolding bit
bit-drop b k t =
    let byte : (8 * k + t) / 8 ≡ k + t / 8 = omega arith in
    let place : (8 * k + t) % 8 ≡ t % 8 = omega arith in
    rw (byte, place, get_or-drop)

-- the number at bit t after the first k bytes
pub number-drop : (b : List ℕ) (k t w : ℕ) → number (drop k b) t w ≡ number b (8 * k + t) w
number-drop b k t zero = number-zero (drop k b) t ∙ sym (number-zero b (8 * k + t))
number-drop b k t (suc w) =
    let place : 8 * k + t + w ≡ 8 * k + (t + w) = omega arith in
    rw (number-suc (drop k b) t w, number-suc b (8 * k + t) w, number-drop b k t w, bit-drop b k (t + w), place)

-- a bit of byte i
pub bit-byte : (b : List ℕ) (i w : ℕ) → w < 8 → bit b (8 * i + w) ≡ get_or b i 0 / 2 ^ w % 2
unfolding bit
bit-byte b i w h =
    let byte : (8 * i + w) / 8 ≡ i = omega arith in
    let place : (8 * i + w) % 8 ≡ w = omega arith in
    rw (byte, place)

-- the lowest w bits of byte i
pub number-low_bits : (b : List ℕ) (i w : ℕ) → w ≤ 8 → number b (8 * i) w ≡ get_or b i 0 % 2 ^ w
number-low_bits b i zero h = number-zero b (8 * i) ∙ sym (mod-one (get_or b i 0))
number-low_bits b i (suc w) h =
    let lower : number b (8 * i) w ≡ get_or b i 0 % 2 ^ w = number-low_bits b i w (omega arith) in
    let top : bit b (8 * i + w) ≡ get_or b i 0 / 2 ^ w % 2 = bit-byte b i w (omega arith) in
    let whole : get_or b i 0 % 2 ^ (1 + w) ≡ get_or b i 0 / 2 ^ w % 2 ^ 1 * 2 ^ w + get_or b i 0 % 2 ^ w = mod-pow-add (get_or b i 0) 1 w in
    rw (number-suc b (8 * i) w, lower, top, ← one-add w, whole) (turned (get_or b i 0 % 2 ^ w) (2 ^ w) (get_or b i 0 / 2 ^ w % 2))
  where
    turned : (n p c : ℕ) → n + p * c ≡ c * p + n
    turned n p c = grind arith

-- eight bits from the start of a byte are that byte
pub number-byte : (b : List ℕ) (i : ℕ) → get_or b i 0 < 256 → number b (8 * i) 8 ≡ get_or b i 0
number-byte b i h = number-low_bits b i 8 (lit≤ tt) ∙ mod-eq_of_lt h

-- byte i is the lowest of the number that begins there
pub number-byte_first : (b : List ℕ) (i w : ℕ) → get_or b i 0 < 256 → number b (8 * i) (8 + w) ≡ get_or b i 0 + 256 * number b (8 * i + 8) w
number-byte_first b i w h = rw (number-split b (8 * i) 8 w, number-byte b i h) refl

-- n bytes from byte k on, as a number by themselves
pub le-piece : (b : List ℕ) (k n : ℕ) → k + n ≤ length b → le (take n (drop k b)) ≡ number b (8 * k) (8 * n)
unfolding le
le-piece b k n h =
    let long : length (take n (drop k b)) ≡ n = simp (length-take, length-drop) (omega arith) in
    ap (λ m. number (take n (drop k b)) 0 (8 * m)) long
    ∙ number-take (drop k b) n 0 (8 * n) (omega arith)
    ∙ number-drop b k 0 (8 * n)
    ∙ ap (λ t. number b t (8 * n)) (add-zero (8 * k))

-- four and eight bytes, in std's words
pub le-from_le_bytes_4 : (b : List ℕ) → ((k : ℕ) → get_or b k 0 < 256) → length b ≡ 4 → le b ≡ from_le_bytes w32 b
unfolding le
le-from_le_bytes_4 b small h =
    ap (λ m. number b 0 (8 * m)) h
    ∙ number-byte_first b 0 24 (small 0)
    ∙ next 0 24 (number-byte_first b 1 16 (small 1)
    ∙ next 1 16 (number-byte_first b 2 8 (small 2)
    ∙ next 2 8 (number-byte b 3 (small 3))))
    ∙ sum_of (get_or b 0 0) (get_or b 1 0) (get_or b 2 0) (get_or b 3 0)
  where
    next : (i w : ℕ) {x : ℕ} → number b (8 * i + 8) w ≡ x → get_or b i 0 + 256 * number b (8 * i + 8) w ≡ get_or b i 0 + 256 * x
    next i w e = ap (λ n. get_or b i 0 + 256 * n) e

    sum_of : (p q r s : ℕ) → p + 256 * (q + 256 * (r + 256 * s)) ≡ p + q * 256 ^ 1 + r * 256 ^ 2 + s * 256 ^ 3
    sum_of p q r s = omega arith

pub le-from_le_bytes_8 : (b : List ℕ) → ((k : ℕ) → get_or b k 0 < 256) → length b ≡ 8 → le b ≡ from_le_bytes w64 b
unfolding le
le-from_le_bytes_8 b small h =
    ap (λ m. number b 0 (8 * m)) h
    ∙ number-byte_first b 0 56 (small 0)
    ∙ next 0 56 (number-byte_first b 1 48 (small 1)
    ∙ next 1 48 (number-byte_first b 2 40 (small 2)
    ∙ next 2 40 (number-byte_first b 3 32 (small 3)
    ∙ next 3 32 (number-byte_first b 4 24 (small 4)
    ∙ next 4 24 (number-byte_first b 5 16 (small 5)
    ∙ next 5 16 (number-byte_first b 6 8 (small 6)
    ∙ next 6 8 (number-byte b 7 (small 7))))))))
    ∙ sum_of (get_or b 0 0) (get_or b 1 0) (get_or b 2 0) (get_or b 3 0) (get_or b 4 0) (get_or b 5 0) (get_or b 6 0) (get_or b 7 0)
  where
    next : (i w : ℕ) {x : ℕ} → number b (8 * i + 8) w ≡ x → get_or b i 0 + 256 * number b (8 * i + 8) w ≡ get_or b i 0 + 256 * x
    next i w e = ap (λ n. get_or b i 0 + 256 * n) e

    sum_of : (p q r s t u v w : ℕ) → p + 256 * (q + 256 * (r + 256 * (s + 256 * (t + 256 * (u + 256 * (v + 256 * w)))))) ≡ p + q * 256 ^ 1 + r * 256 ^ 2 + s * 256 ^ 3 + t * 256 ^ 4 + u * 256 ^ 5 + v * 256 ^ 6 + w * 256 ^ 7
    sum_of p q r s t u v w = omega arith

bytes_low_first-lt : (j m n k : ℕ) → get_or (bytes_low_first j m n) k 0 < 256
bytes_low_first-lt j zero n k = lit< tt
bytes_low_first-lt zero (suc m) n zero = omega arith
bytes_low_first-lt (suc j) (suc m) n zero = mod_below (n / 256 ^ suc j) 256 (lit< tt)
bytes_low_first-lt j (suc m) n (suc k) = bytes_low_first-lt (suc j) m n k

-- a number of 32 or 64 bits is that of its bytes, the lowest first
pub le-to_le_bytes_4 : (n : ℕ) → n < 2 ^ 32 → le (to_le_bytes w32 n) ≡ n
le-to_le_bytes_4 n h = le-from_le_bytes_4 (to_le_bytes w32 n) (bytes_low_first-lt 0 4 n) refl ∙ from_le_bytes-to_le_bytes_4 n h

pub le-to_le_bytes_8 : (n : ℕ) → n < 2 ^ 64 → le (to_le_bytes w64 n) ≡ n
le-to_le_bytes_8 n h = le-from_le_bytes_8 (to_le_bytes w64 n) (bytes_low_first-lt 0 8 n) refl ∙ from_le_bytes-to_le_bytes_8 n h

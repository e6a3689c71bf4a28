-- Words of bytes, shifted and masked, as bit fields.
use Rattle.std.proofs.Common.{◌≡◌, ℕ, ◌+◌, ◌-◌, ◌*◌, ◌/◌, ◌%◌, ◌^◌, ◌<◌, ◌≤◌, List, [], ◌∷◌, get_or, bit_and, bit_or, refl, sym, ap, ap₂, ◌∙◌, arith, add-one, add-zero, lit<, ◌⊎◌, inl, inr}
use Rattle.std.proofs.Math.Nat.{mul_comm, mod-eq_of_lt, pow-le-pow_right, mul-mod_left}
use Rattle.std.proofs.lemmas.Nat.{and_mask, or_shifted, shr_high, mod_low, pow-add, pow_pos, shl_below, or_comm, mod-pow-add, shl-shr}
use Rattle.std.proofs.lemmas.Nat.Bits.{ones_shr}
use Rattle.e57_bits.specs.Bits.{number, bit}
use Rattle.e57_bits.proofs.BitLaws.{number-split, number-lt, number-low_bits, number-suc, bit-lt}

-- the lower w of n bits
pub number-mod : (b : List ℕ) (t w n : ℕ) → w ≤ n → number b t n % 2 ^ w ≡ number b t w
number-mod b t w n h =
    let e : n ≡ w + (n - w) = omega arith in
    ap (λ m. number b t m % 2 ^ w) e
    ∙ ap (λ x. x % 2 ^ w) (number-split b t w (n - w) ∙ turned (number b t w) (2 ^ w) (number b (t + w) (n - w)))
    ∙ mod_low (number b (t + w) (n - w)) w (number b t w) (number-lt b t w)
  where
    turned : (a p c : ℕ) → a + p * c ≡ c * p + a
    turned a p c = grind arith

-- the bits of a number above the lowest s
pub number-div : (b : List ℕ) (t s n : ℕ) → s ≤ n → number b t n / 2 ^ s ≡ number b (t + s) (n - s)
number-div b t s n h =
    let e : n ≡ s + (n - s) = omega arith in
    ap (λ m. number b t m / 2 ^ s) e
    ∙ ap (λ x. x / 2 ^ s) (number-split b t s (n - s) ∙ turned (number b t s) (2 ^ s) (number b (t + s) (n - s)))
    ∙ shr_high (number b (t + s) (n - s)) s (number b t s) (number-lt b t s)
  where
    turned : (a p c : ℕ) → a + p * c ≡ c * p + a
    turned a p c = grind arith

-- the mask of w bits
pub masked : (x w : ℕ) → w ≤ 64 → bit_and x (18446744073709551615 / 2 ^ (64 - w)) ≡ x % 2 ^ w
masked x w h =
    let e : 64 - (64 - w) ≡ w = omega arith in
    ap (bit_and x) (ones_shr 64 (64 - w) (omega arith) ∙ ap (λ m. 2 ^ m - 1) e) ∙ and_mask x w

-- w bits from bit t on, within the n bits of a word at byte p
pub field : (b : List ℕ) (p s w n t word : ℕ) → word ≡ number b (8 * p) n → s + w ≤ n → w ≤ 64 → 8 * p + s ≡ t
    → bit_and (word / 2 ^ s) (18446744073709551615 / 2 ^ (64 - w)) ≡ number b t w
field b p s w n t word e h g at =
    masked (word / 2 ^ s) w g
    ∙ ap (λ x. x / 2 ^ s % 2 ^ w) e
    ∙ ap (λ x. x % 2 ^ w) (number-div b (8 * p) s n (omega arith))
    ∙ number-mod b (8 * p + s) w (n - s) (omega arith)
    ∙ ap (λ x. number b x w) at

pub same_eight : {a b c d e f g h a' b' c' d' e' f' g' h' : ℕ} → a ≡ a' → b ≡ b' → c ≡ c' → d ≡ d' → e ≡ e' → f ≡ f' → g ≡ g' → h ≡ h'
    → a ∷ b ∷ c ∷ d ∷ e ∷ f ∷ g ∷ h ∷ [] ≡ a' ∷ b' ∷ c' ∷ d' ∷ e' ∷ f' ∷ g' ∷ h' ∷ []
same_eight p q r s t u v w = rw (p, q, r, s, t, u, v, w) refl

-- a bit more, at the top
pub one_more : (b : List ℕ) (t w n x : ℕ) → n ≡ number b t w → x ≡ bit b (t + w) → w < 64 → n + x * 2 ^ w % 2 ^ 64 ≡ number b t (w + 1)
one_more b t w n x e g h =
    let small : x < 2 = rw g (bit-lt b (t + w)) in
    let fits : x * 2 ^ w < 2 ^ 64 = top x small in
    rw (mod-eq_of_lt fits, add-one, number-suc b t w, e, g) (omega (arith, mul_comm (bit b (t + w)) (2 ^ w)))
  where
    powers : (v : ℕ) → v < 64 → 2 ^ (1 + v) ≤ 2 ^ 64
    powers v k = pow-le-pow_right {n = 2} (lit< tt) {i = 1 + v} {j = 64} (omega arith)

    top : (y : ℕ) → y < 2 → y * 2 ^ w < 2 ^ 64
    top y k = omega (arith, shl_below y 1 w k, powers w h)

grouped : (x q r : ℕ) → 2 * q ≡ r → x * 2 * q ≡ x * r
grouped x q r e = rw (← e) (grind arith)

-- nine bytes: eight as a word, and the lowest bits of the ninth above it
pub in_nine : (b : List ℕ) (p s w word top : ℕ) → word ≡ number b (8 * p) 64 → top ≡ get_or b (p + 8) 0 → top < 256 → s < 8 → w ≤ 64
    → bit_and (bit_or (word / 2 ^ s) (top * 2 % 2 ^ 64 * 2 ^ (63 - s) % 2 ^ 64)) (18446744073709551615 / 2 ^ (64 - w)) ≡ number b (8 * p + s) w
in_nine b p s w word top e g small h k =
    let span : (64 - s) + s ≡ 64 = omega arith in
    let low : word / 2 ^ s ≡ number b (8 * p + s) (64 - s) = ap (λ x. x / 2 ^ s) e ∙ number-div b (8 * p) s 64 (omega arith) in
    let high : top % 2 ^ s ≡ number b (8 * p + s + (64 - s)) s =
    ap (λ x. x % 2 ^ s) g ∙ sym (number-low_bits b (p + 8) s (omega arith)) ∙ ap (λ x. number b x s) (omega arith) in
    let whole : bit_or (word / 2 ^ s) (top * 2 % 2 ^ 64 * 2 ^ (63 - s) % 2 ^ 64) ≡ number b (8 * p + s) 64 =
    ap (bit_or (word / 2 ^ s)) (shifted top s small h)
    ∙ or_comm (word / 2 ^ s) (top % 2 ^ s * 2 ^ (64 - s))
    ∙ ap (bit_or (top % 2 ^ s * 2 ^ (64 - s))) low
    ∙ or_shifted (top % 2 ^ s) (64 - s) (number b (8 * p + s) (64 - s)) (number-lt b (8 * p + s) (64 - s))
    ∙ ap (λ x. x * 2 ^ (64 - s) + number b (8 * p + s) (64 - s)) high
    ∙ turned (number b (8 * p + s + (64 - s)) s) (2 ^ (64 - s)) (number b (8 * p + s) (64 - s))
    ∙ sym (number-split b (8 * p + s) (64 - s) s)
    ∙ ap (number b (8 * p + s)) span in
    masked _ w k ∙ ap (λ x. x % 2 ^ w) whole ∙ number-mod b (8 * p + s) w 64 k
  where
    turned : (a q c : ℕ) → a * q + c ≡ c + q * a
    turned a q c = grind arith

    -- the ninth byte above the rest of the word: its upper bits are lost
    shifted : (x r : ℕ) → x < 256 → r < 8 → x * 2 % 2 ^ 64 * 2 ^ (63 - r) % 2 ^ 64 ≡ x % 2 ^ r * 2 ^ (64 - r)
    shifted x r below_byte below_eight =
        let first : x * 2 % 2 ^ 64 ≡ x * 2 = mod-eq_of_lt (omega arith) in
        let power : 2 * 2 ^ (63 - r) ≡ 2 ^ (64 - r) = sym (pow-add 2 1 (63 - r)) ∙ ap (λ m. 2 ^ m) (omega arith) in
        let width : r + (64 - r) ≡ 64 = omega arith in
        ap (λ y. y * 2 ^ (63 - r) % 2 ^ 64) first
        ∙ ap (λ y. y % 2 ^ 64) (grouped x (2 ^ (63 - r)) (2 ^ (64 - r)) power)
        ∙ ap (λ m. x * 2 ^ (64 - r) % 2 ^ m) (sym width)
        ∙ mod-pow-add (x * 2 ^ (64 - r)) r (64 - r)
        ∙ ap₂ (λ y z. y % 2 ^ r * 2 ^ (64 - r) + z) (shl-shr x (64 - r)) (mul-mod_left x (2 ^ (64 - r)))
        ∙ add-zero (x % 2 ^ r * 2 ^ (64 - r))

-- an item of 1, 2 or 4 bits whose phase is a multiple of its width lies in one byte
pub in_one : (p w j m : ℕ) → p % w ≡ 0 → (w ≡ 1) ⊎ ((w ≡ 2) ⊎ (w ≡ 4)) → m ≡ p + j * w → m % 8 + w ≤ 8
in_one p w j m e (inl h) g = rw h (omega arith)
in_one p w j m e (inr (inl h)) g = let even : p % 2 ≡ 0 = rw h at e in let at : m ≡ p + j * 2 = rw h at g in rw h (omega arith)
in_one p w j m e (inr (inr h)) g = let four : p % 4 ≡ 0 = rw h at e in let at : m ≡ p + j * 4 = rw h at g in rw h (omega arith)

-- the mask of w bits is a number of w bits
pub mask-lt : (w : ℕ) → w ≤ 64 → 18446744073709551615 / 2 ^ (64 - w) < 2 ^ w
mask-lt w h =
    let e : 64 - (64 - w) ≡ w = omega arith in
    let k : 18446744073709551615 / 2 ^ (64 - w) ≡ 2 ^ w - 1 = ones_shr 64 (64 - w) (omega arith) ∙ ap (λ m. 2 ^ m - 1) e in
    omega (arith, k, pow_pos w)

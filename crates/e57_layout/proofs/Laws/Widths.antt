-- Laws of widths, and of how far one integer is above another.
use Rattle.std.proofs.Common.{◌≡◌, ℕ, zero, suc, ◌*◌, ◌/◌, ◌^◌, ◌<◌, ◌≤◌, ◌==◌, cond, refl, arith, lit<}
use Rattle.std.specs.Prelude.{ℤ, pos, negsuc, ◌+ℤ◌, ◌≤ℤ◌, FitsSigned}
use Rattle.std.specs.Int.{int_gap, w64}
use Rattle.std.proofs.Math.Nat.{pow-suc}
use Rattle.std.proofs.lemmas.Bool.{eqb-true, eqb-false, cond_both}
use Rattle.std.proofs.lemmas.Int.{ints}
use Rattle.e57_layout.specs.Widths.{bit_length, width}

-- ---- how many bits a number has

bit_length-suc : (most n : ℕ) → bit_length (suc most) n ≡ cond (n == 0) 0 (suc (bit_length most (n / 2)))
unfolding bit_length
bit_length-suc most n = refl

-- they are enough
pub bit_length-holds : (most n : ℕ) → n < 2 ^ most → n < 2 ^ bit_length most n
unfolding bit_length
bit_length-holds zero n h = h
bit_length-holds (suc most) n h =
    cond_both (n == 0) 0 (suc (bit_length most (n / 2))) (λ (w : ℕ). n < 2 ^ w)
    (λ none. let e : n ≡ 0 = eqb-true n 0 none in rw e (lit< tt))
    (λ some.
    let half : n / 2 < 2 ^ most = let twice : 2 ^ suc most ≡ 2 ^ most * 2 = pow-suc 2 most in omega arith in
    let rest : n / 2 < 2 ^ bit_length most (n / 2) = bit_length-holds most (n / 2) half in
    let wide : 2 ^ suc (bit_length most (n / 2)) ≡ 2 ^ bit_length most (n / 2) * 2 = pow-suc 2 (bit_length most (n / 2)) in
    omega arith)

-- and no fewer are
pub bit_length-least : (most n w : ℕ) → n < 2 ^ w → bit_length most n ≤ w
unfolding bit_length
bit_length-least zero n w h = omega arith
bit_length-least (suc most) n zero h =
    cond_both (n == 0) 0 (suc (bit_length most (n / 2))) (λ (v : ℕ). v ≤ 0)
    (λ none. omega arith)
    (λ some. absurd (eqb-false n 0 some (omega arith)))
bit_length-least (suc most) n (suc w) h =
    let twice : 2 ^ suc w ≡ 2 ^ w * 2 = pow-suc 2 w in
    let half : n / 2 < 2 ^ w = omega arith in
    let rest : bit_length most (n / 2) ≤ w = bit_length-least most (n / 2) w half in
    cond_both (n == 0) 0 (suc (bit_length most (n / 2))) (λ (v : ℕ). v ≤ suc w)
    (λ none. omega arith)
    (λ some. omega arith)

pub bit_length-le : (most n : ℕ) → bit_length most n ≤ most
unfolding bit_length
bit_length-le zero n = omega arith
bit_length-le (suc most) n =
    let rest : bit_length most (n / 2) ≤ most = bit_length-le most (n / 2) in
    cond_both (n == 0) 0 (suc (bit_length most (n / 2))) (λ (w : ℕ). w ≤ suc most) (λ none. omega arith) (λ some. omega arith)

-- ---- the width of integers with limits

pub width-holds : (low high : ℤ) → int_gap low high < 2 ^ 64 → int_gap low high < 2 ^ width low high
unfolding width
width-holds low high h = bit_length-holds 64 (int_gap low high) h

pub width-least : (low high : ℤ) (w : ℕ) → int_gap low high < 2 ^ w → width low high ≤ w
unfolding width
width-least low high w h = bit_length-least 64 (int_gap low high) w h

pub width-le : (low high : ℤ) → width low high ≤ 64
unfolding width
width-le low high = bit_length-le 64 (int_gap low high)

-- ---- how far one integer is above another

-- limits that are in order
pub gap-back : (low z : ℤ) → low ≤ℤ z → low +ℤ pos (int_gap low z) ≡ z
gap-back (pos a) (pos b) h = omega (arith, ints)
gap-back (pos a) (negsuc b) h = omega (arith, ints)
gap-back (negsuc a) (pos b) h = omega (arith, ints)
gap-back (negsuc a) (negsuc b) h = omega (arith, ints)

pub gap-le : (low z high : ℤ) → low ≤ℤ z → z ≤ℤ high → int_gap low z ≤ int_gap low high
gap-le (pos a) (pos b) (pos c) h g = omega (arith, ints)
gap-le (pos a) (pos b) (negsuc c) h g = omega (arith, ints)
gap-le (pos a) (negsuc b) high h g = absurd (omega (arith, ints))
gap-le (negsuc a) (pos b) (pos c) h g = omega (arith, ints)
gap-le (negsuc a) (pos b) (negsuc c) h g = absurd (omega (arith, ints))
gap-le (negsuc a) (negsuc b) (pos c) h g = omega (arith, ints)
gap-le (negsuc a) (negsuc b) (negsuc c) h g = omega (arith, ints)

-- what is at most as far above the lowest value as the highest is
pub gap-above : (low high : ℤ) (n : ℕ) → low ≤ℤ high → n ≤ int_gap low high → (low ≤ℤ (low +ℤ pos n)) × ((low +ℤ pos n) ≤ℤ high)
gap-above (pos a) (pos b) n h g = (omega (arith, ints), omega (arith, ints))
gap-above (pos a) (negsuc b) n h g = absurd (omega (arith, ints))
gap-above (negsuc a) (pos b) n h g = (omega (arith, ints), omega (arith, ints))
gap-above (negsuc a) (negsuc b) n h g = (omega (arith, ints), omega (arith, ints))

-- integers of 64 bits are less than 2 ^ 64 apart
pub gap-lt : (low high : ℤ) → FitsSigned w64 low → FitsSigned w64 high → int_gap low high < 2 ^ 64
gap-lt (pos a) (pos b) h g = omega (arith, ints)
gap-lt (pos a) (negsuc b) h g = lit< tt
gap-lt (negsuc a) (pos b) h g = omega (arith, ints)
gap-lt (negsuc a) (negsuc b) h g = omega (arith, ints)

-- Laws of numbers as bytes and of items of w bits.
use Rattle.std.proofs.Common.{◌≡◌, ℕ, zero, suc, ◌+◌, ◌-◌, ◌*◌, ◌/◌, ◌%◌, ◌^◌, ◌<◌, ◌≤◌, List, [], ◌∷◌, ◌++◌, length, get_or, refl, sym, ap, ◌∙◌, arith, zero-add, length-append, lit<}
use Rattle.std.specs.Int.{byte_at, bytes_low_first}
use Rattle.std.specs.List.{flat_map, AllByRecursion}
use Rattle.std.proofs.Math.Nat.{pow-suc, div-div-eq-div-mul, mod-eq_of_lt, mod-one, div-one, le_refl}
use Rattle.std.proofs.lemmas.Nat.{mod_below, mod-pow-add, mod_low, shr_high, shr-shr, pow-add, pow_pos, field_of, mul-add-lt, mul-le}
use Rattle.e57_bits.specs.Bits.{number}
use Rattle.e57_bits.proofs.BitLaws.{number-lt, number-zero, number-split, number-byte_first, number-drop}
use Rattle.e57_layout.specs.Bytes.{low_bytes, joined, packed}

-- each number is below 2 ^ w
abbrev pub AreBelow : ℕ → List ℕ → Type 0
AreBelow w xs = AllByRecursion (λ x. x < 2 ^ w) xs

-- ---- the definitions, step by step

pub low_bytes-zero : (n : ℕ) → low_bytes 0 n ≡ []
unfolding low_bytes
low_bytes-zero n = refl

pub low_bytes-suc : (k n : ℕ) → low_bytes (suc k) n ≡ n % 256 ∷ low_bytes k (n / 256)
unfolding low_bytes
low_bytes-suc k n = refl

pub joined-nil : (w : ℕ) → joined w [] ≡ 0
unfolding joined
joined-nil w = refl

pub joined-cons : (w x : ℕ) (xs : List ℕ) → joined w (x ∷ xs) ≡ x + 2 ^ w * joined w xs
unfolding joined
joined-cons w x xs = refl

pub packed_is : (w : ℕ) (xs : List ℕ) → packed w xs ≡ low_bytes ((w * length xs + 7) / 8) (joined w xs)
unfolding packed
packed_is w xs = refl

-- ---- the lowest bytes of a number

pub length-low_bytes : (k n : ℕ) → length (low_bytes k n) ≡ k
unfolding low_bytes
length-low_bytes zero n = refl
length-low_bytes (suc k) n = ap suc (length-low_bytes k (n / 256))

-- they are bytes
pub low_bytes-lt : (k n i : ℕ) → get_or (low_bytes k n) i 0 < 256
unfolding low_bytes
low_bytes-lt zero n i = lit< tt
low_bytes-lt (suc k) n zero = mod_below n 256 (lit< tt)
low_bytes-lt (suc k) n (suc i) = low_bytes-lt k (n / 256) i

little-from : (i k n : ℕ) → bytes_low_first i k n ≡ low_bytes k (n / 256 ^ i)
little-from i zero n = sym (low_bytes-zero (n / 256 ^ i))
little-from i (suc k) n =
    let next : n / 256 ^ i / 256 ≡ n / 256 ^ suc i = div-div-eq-div-mul n (256 ^ i) 256 ∙ ap (λ m. n / m) (sym (pow-suc 256 i)) in
    rw (low_bytes-suc k (n / 256 ^ i), next, little-from (suc i) k n, first i) refl
  where
    first : (i : ℕ) → byte_at i n ≡ n / 256 ^ i % 256
    first zero = rw div-one refl
    first (suc i) = refl

-- std's word for them
pub little-low_bytes : (k n : ℕ) → bytes_low_first 0 k n ≡ low_bytes k n
little-low_bytes k n = little-from 0 k n ∙ ap (low_bytes k) (div-one n)

pub little-low_bytes_all : (k : ℕ) (ns : List ℕ) → flat_map (bytes_low_first 0 k) ns ≡ flat_map (low_bytes k) ns
little-low_bytes_all k [] = refl
little-low_bytes_all k (n ∷ ns) = rw (little-low_bytes k n, little-low_bytes_all k ns)

-- a number within n % 2 ^ (r + a) is one within n % 2 ^ a
mod-mod_pow : (n r a : ℕ) → n % 2 ^ (r + a) % 2 ^ a ≡ n % 2 ^ a
mod-mod_pow n r a = rw (mod-pow-add n r a) (mod_low (n / 2 ^ a % 2 ^ r) a (n % 2 ^ a) (mod_below n (2 ^ a) (pow_pos a)))

-- the number after a first byte
pub number-cons : (x : ℕ) (xs : List ℕ) (t w : ℕ) → number (x ∷ xs) (8 + t) w ≡ number xs t w
number-cons x xs t w = sym (number-drop (x ∷ xs) 1 t w)

-- all k bytes
low_bytes-whole : (k n : ℕ) → number (low_bytes k n) 0 (8 * k) ≡ n % 2 ^ (8 * k)
low_bytes-whole zero n = rw (number-zero (low_bytes 0 n) 0) (sym (mod-one n))
low_bytes-whole (suc k) n =
    let size : 8 * suc k ≡ 8 + 8 * k = omega arith in
    let turned : 8 + 8 * k ≡ 8 * k + 8 = omega arith in
    let rest : number (n % 256 ∷ low_bytes k (n / 256)) 8 (8 * k) ≡ n / 256 % 2 ^ (8 * k) = number-cons (n % 256) (low_bytes k (n / 256)) 0 (8 * k) ∙ low_bytes-whole k (n / 256) in
    let first : number (n % 256 ∷ low_bytes k (n / 256)) 0 (8 + 8 * k) ≡ n % 256 + 256 * number (n % 256 ∷ low_bytes k (n / 256)) 8 (8 * k) = number-byte_first (n % 256 ∷ low_bytes k (n / 256)) 0 (8 * k) (mod_below n 256 (lit< tt)) in
    let split : n % 2 ^ (8 * k + 8) ≡ n / 2 ^ 8 % 2 ^ (8 * k) * 2 ^ 8 + n % 2 ^ 8 = mod-pow-add n (8 * k) 8 in
    rw (low_bytes-suc k n, size, first, rest, turned, split) (turn (n % 256) (n / 256 % 2 ^ (8 * k)))
  where
    turn : (a b : ℕ) → a + 256 * b ≡ b * 256 + a
    turn a b = omega arith

-- the first v bits, and w more
pub number-front : (b : List ℕ) (v w : ℕ) → number b 0 (v + w) ≡ number b 0 v + 2 ^ v * number b v w
number-front b v w = number-split b 0 v w ∙ ap (λ t. number b 0 v + 2 ^ v * number b t w) (zero-add v)

-- a number of a list is cut out of the list as one number
pub number-cut : (b : List ℕ) (t w m : ℕ) → t + w ≤ m → number b t w ≡ number b 0 m / 2 ^ t % 2 ^ w
number-cut b t w m h =
    let size : m ≡ t + w + (m - (t + w)) = omega arith in
    let wide : number b 0 (t + w + (m - (t + w))) ≡ number b 0 (t + w) + 2 ^ (t + w) * number b (t + w) (m - (t + w)) = number-front b (t + w) (m - (t + w)) in
    let near : number b 0 (t + w) ≡ number b 0 t + 2 ^ t * number b t w = number-front b t w in
    let all : number b 0 m ≡ (number b (t + w) (m - (t + w)) * 2 ^ w + number b t w) * 2 ^ t + number b 0 t = ap (number b 0) size ∙ wide ∙ ap (λ x. x + 2 ^ (t + w) * number b (t + w) (m - (t + w))) near ∙ rw (pow-add 2 t w) (turn (number b 0 t) (2 ^ t) (number b t w) (2 ^ w) (number b (t + w) (m - (t + w)))) in
    rw (all, shr_high (number b (t + w) (m - (t + w)) * 2 ^ w + number b t w) t (number b 0 t) (number-lt b 0 t), mod_low (number b (t + w) (m - (t + w))) w (number b t w) (number-lt b t w))
  where
    turn : (a p n q c : ℕ) → a + p * n + p * q * c ≡ (c * q + n) * p + a
    turn a p n q c = grind arith

-- the number in w bits of a number's lowest bytes
pub number-low_bytes : (k n t w : ℕ) → t + w ≤ 8 * k → number (low_bytes k n) t w ≡ n / 2 ^ t % 2 ^ w
number-low_bytes k n t w h =
    let near : number (low_bytes k n) t w ≡ number (low_bytes k n) 0 (t + w) / 2 ^ t % 2 ^ w = number-cut (low_bytes k n) t w (t + w) (omega arith) in
    let size : 8 * k ≡ 8 * k - (t + w) + (t + w) = omega arith in
    let cut : number (low_bytes k n) 0 (t + w) ≡ number (low_bytes k n) 0 (8 * k) / 2 ^ 0 % 2 ^ (t + w) = number-cut (low_bytes k n) 0 (t + w) (8 * k) (omega arith) in
    let whole : number (low_bytes k n) 0 (t + w) ≡ n % 2 ^ (t + w) = cut ∙ rw (div-one, low_bytes-whole k n) (ap (λ m. n % 2 ^ m % 2 ^ (t + w)) size ∙ mod-mod_pow n (8 * k - (t + w)) (t + w)) in
    let swapped : t + w ≡ w + t = omega arith in
    near ∙ rw (whole, swapped, field_of n w t) (mod-eq_of_lt (mod_below (n / 2 ^ t) (2 ^ w) (pow_pos w)))

-- a number that the bytes have room for
pub number-low_bytes_all : (k n : ℕ) → n < 2 ^ (8 * k) → number (low_bytes k n) 0 (8 * k) ≡ n
number-low_bytes_all k n h = low_bytes-whole k n ∙ mod-eq_of_lt h

-- some bytes and then more
pub low_bytes-add : (m k n : ℕ) → low_bytes (m + k) n ≡ low_bytes m n ++ low_bytes k (n / 2 ^ (8 * m))
low_bytes-add zero k n = rw (zero-add, low_bytes-zero, div-one)
low_bytes-add (suc m) k n =
    let size : suc m + k ≡ suc (m + k) = omega arith in
    let shift : 8 * suc m ≡ 8 + 8 * m = omega arith in
    rw (size, low_bytes-suc (m + k) n, low_bytes-suc m n, low_bytes-add m k (n / 256), shift, ← shr-shr n 8 (8 * m))

-- what is above them doesn't count
pub low_bytes-mod : (m a b : ℕ) → low_bytes m (a + 2 ^ (8 * m) * b) ≡ low_bytes m a
low_bytes-mod zero a b = low_bytes-zero (a + 2 ^ (8 * 0) * b) ∙ sym (low_bytes-zero a)
low_bytes-mod (suc m) a b =
    let shift : 8 * suc m ≡ 8 + 8 * m = omega arith in
    let size : 2 ^ (8 + 8 * m) * b ≡ 256 * (2 ^ (8 * m) * b) = rw (pow-add 2 8 (8 * m)) (turn (2 ^ (8 * m)) b) in
    rw (low_bytes-suc m a, shift, size, low_bytes-suc m (a + 256 * (2 ^ (8 * m) * b)), low a (2 ^ (8 * m) * b), high a (2 ^ (8 * m) * b), low_bytes-mod m (a / 256) b)
  where
    turn : (p c : ℕ) → 256 * p * c ≡ 256 * (p * c)
    turn p c = grind arith

    low : (a c : ℕ) → (a + 256 * c) % 256 ≡ a % 256
    low a c = omega arith

    high : (a c : ℕ) → (a + 256 * c) / 256 ≡ a / 256 + c
    high a c = omega arith

-- ---- items of w bits

turned : (x p j : ℕ) → x + p * j ≡ j * p + x
turned x p j = grind arith

pub joined-lt : (w : ℕ) (xs : List ℕ) → AreBelow w xs → joined w xs < 2 ^ (w * length xs)
joined-lt w [] h = rw joined-nil (pow_pos (w * 0))
joined-lt w (x ∷ xs) h =
    let rest : joined w xs < 2 ^ (w * length xs) = joined-lt w xs h.1 in
    let size : w * suc (length xs) ≡ w + w * length xs = grind arith in
    rw (joined-cons w x xs, size, pow-add 2 w (w * length xs)) (bound x (2 ^ w) (joined w xs) (2 ^ (w * length xs)) h.0 rest)
  where
    bound : (x p j q : ℕ) → x < p → j < q → x + p * j < p * q
    bound x p j q g f = let h : j * p + x < p * q = mul-add-lt j p x q f g in rw (turned x p j) h

-- item k
pub joined-item : (w : ℕ) (xs : List ℕ) (k : ℕ) → AreBelow w xs → k < length xs → joined w xs / 2 ^ (w * k) % 2 ^ w ≡ get_or xs k 0
joined-item w [] k h g = absurd (omega arith)
joined-item w (x ∷ xs) zero h g =
    let none : w * 0 ≡ 0 = grind arith in
    rw (joined-cons w x xs, none, div-one, turned x (2 ^ w) (joined w xs)) (mod_low (joined w xs) w x h.0)
joined-item w (x ∷ xs) (suc k) h g =
    let size : w * suc k ≡ w + w * k = grind arith in
    rw (joined-cons w x xs, size, ← shr-shr (x + 2 ^ w * joined w xs) w (w * k), turned x (2 ^ w) (joined w xs), shr_high (joined w xs) w x h.0)
    (joined-item w xs k h.1 (omega arith))

pub joined-append : (w : ℕ) (xs ys : List ℕ) → joined w (xs ++ ys) ≡ joined w xs + 2 ^ (w * length xs) * joined w ys
joined-append w [] ys =
    let none : w * 0 ≡ 0 = grind arith in
    rw (joined-nil, none) (omega arith)
joined-append w (x ∷ xs) ys =
    let size : w * suc (length xs) ≡ w + w * length xs = grind arith in
    rw (joined-cons w x (xs ++ ys), joined-cons w x xs, joined-append w xs ys, size, pow-add 2 w (w * length xs))
    (turn x (2 ^ w) (joined w xs) (2 ^ (w * length xs)) (joined w ys))
  where
    turn : (x p j q i : ℕ) → x + p * (j + q * i) ≡ x + p * j + p * q * i
    turn x p j q i = grind arith

-- how many bytes items take
pub length-packed : (w : ℕ) (xs : List ℕ) → length (packed w xs) ≡ (w * length xs + 7) / 8
length-packed w xs = rw packed_is (length-low_bytes ((w * length xs + 7) / 8) (joined w xs))

-- item k is found in its bits
pub packed-item : (w : ℕ) (xs : List ℕ) (k : ℕ) → AreBelow w xs → k < length xs → number (packed w xs) (w * k) w ≡ get_or xs k 0
packed-item w xs k h g =
    let last : w * k + w ≤ w * length xs = rows w k (length xs) g in
    let room : w * k + w ≤ 8 * ((w * length xs + 7) / 8) = within (w * k + w) (w * length xs) last in
    rw packed_is (number-low_bytes ((w * length xs + 7) / 8) (joined w xs) (w * k) w room ∙ joined-item w xs k h g)
  where
    rows : (w k n : ℕ) → k < n → w * k + w ≤ w * n
    rows w k n f = let e : w * k + w ≡ w * suc k = grind arith in rw e (mul-le w (suc k) w n (le_refl w) f)

    within : (a b : ℕ) → a ≤ b → a ≤ 8 * ((b + 7) / 8)
    within a b f = omega arith

-- items after items that take whole bytes
pub packed-append : (w m : ℕ) (xs ys : List ℕ) → AreBelow w xs → w * length xs ≡ 8 * m → packed w (xs ++ ys) ≡ packed w xs ++ packed w ys
packed-append w m xs ys h e =
    let count : w * length (xs ++ ys) ≡ 8 * m + w * length ys = rw length-append (regroup (length xs) (length ys) e) in
    let wide : (w * length (xs ++ ys) + 7) / 8 ≡ m + (w * length ys + 7) / 8 = rw count (omega arith) in
    let near : (w * length xs + 7) / 8 ≡ m = rw e (omega arith) in
    let below : joined w xs < 2 ^ (8 * m) = rw e at (joined-lt w xs h) in
    let sum_of : joined w (xs ++ ys) ≡ joined w xs + 2 ^ (8 * m) * joined w ys = joined-append w xs ys ∙ rw e refl in
    let later : (joined w xs + 2 ^ (8 * m) * joined w ys) / 2 ^ (8 * m) ≡ joined w ys = rw (turned (joined w xs) (2 ^ (8 * m)) (joined w ys)) (shr_high (joined w ys) (8 * m) (joined w xs) below) in
    rw (packed_is w (xs ++ ys), packed_is w xs, packed_is w ys, wide, near, sum_of, low_bytes-add m ((w * length ys + 7) / 8) (joined w xs + 2 ^ (8 * m) * joined w ys), low_bytes-mod m (joined w xs) (joined w ys), later)
  where
    regroup : (i j : ℕ) → w * i ≡ 8 * m → w * (i + j) ≡ 8 * m + w * j
    regroup i j f = grind arith

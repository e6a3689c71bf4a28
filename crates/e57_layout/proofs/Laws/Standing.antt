-- Laws of pieces that stand in bytes.
use Rattle.std.proofs.Common.{◌≡◌, ℕ, ◌+◌, ◌-◌, ◌*◌, ◌^◌, ◌<◌, ◌≤◌, min, List, [], ◌++◌, length, take, drop, refl, sym, ap, ◌∙◌, subst, arith, length-append, length-take, length-drop}
use Rattle.std.proofs.lemmas.List.{take-take, take_at, drop_at, drop-take, drop-drop}
use Rattle.std.proofs.Math.Seq.{take-add}
use Rattle.e57_bits.specs.Bits.{number}
use Rattle.e57_bits.proofs.BitLaws.{number-take, number-drop}
use Rattle.e57_layout.specs.Bytes.{low_bytes}
use Rattle.e57_layout.specs.Standing.{Stands}
use Rattle.e57_layout.proofs.Laws.Numbers.{length-low_bytes, number-low_bytes_all}

-- no bytes stand anywhere
pub Stands-nil : (b : List ℕ) (q : ℕ) → Stands b q []
Stands-nil b q = refl

-- a piece stands in bytes after those before it
pub Stands-here : (before piece after : List ℕ) → Stands (before ++ (piece ++ after)) (length before) piece
Stands-here before piece after =
    ap (take (length piece)) (drop_at before (piece ++ after) (length before) refl) ∙ take_at piece after (length piece) refl

-- two pieces that stand one after the other, taken apart
pub Stands-front : (b : List ℕ) (q : ℕ) (xs ys : List ℕ) → Stands b q (xs ++ ys) → Stands b q xs
Stands-front b q xs ys h =
    let within : length xs ≤ length (xs ++ ys) = rw length-append (omega arith) in
    sym (take-take (length xs) (length (xs ++ ys)) (drop q b) within) ∙ ap (take (length xs)) h ∙ take_at xs ys (length xs) refl

pub Stands-behind : (b : List ℕ) (q : ℕ) (xs ys : List ℕ) → Stands b q (xs ++ ys) → Stands b (q + length xs) ys
Stands-behind b q xs ys h =
    let whole : take (length xs + length ys) (drop q b) ≡ xs ++ ys = ap (λ n. take n (drop q b)) (sym (length-append xs ys)) ∙ h in
    ap (take (length ys)) (sym (drop-drop (length xs) q b))
    ∙ sym (drop-take (length xs) (length ys) (drop q b))
    ∙ ap (drop (length xs)) whole
    ∙ drop_at xs ys (length xs) refl

-- and put together
pub Stands-append : (b : List ℕ) (q : ℕ) (xs ys : List ℕ) → Stands b q xs → Stands b (q + length xs) ys → Stands b q (xs ++ ys)
Stands-append b q xs ys h g =
    let later : take (length ys) (drop (length xs) (drop q b)) ≡ ys = ap (take (length ys)) (drop-drop (length xs) q b) ∙ g in
    ap (λ n. take n (drop q b)) (length-append xs ys) ∙ take-add (length xs) (length ys) (drop q b) ∙ (ap (λ zs. zs ++ take (length ys) (drop (length xs) (drop q b))) h ∙ ap (λ zs. xs ++ zs) later)

-- a piece that isn't empty lies within the bytes
pub Stands-within : (b : List ℕ) (q : ℕ) (piece : List ℕ) → Stands b q piece → 0 < length piece → q + length piece ≤ length b
Stands-within b q piece h g =
    let size : min (length piece) (length b - q) ≡ length piece = rw (length-take, length-drop) at (ap length h) in
    omega arith

-- a number in a piece that stands is the piece's
pub Stands-number : (b : List ℕ) (q : ℕ) (piece : List ℕ) (t w : ℕ) → Stands b q piece → t + w ≤ 8 * length piece → number b (8 * q + t) w ≡ number piece t w
Stands-number b q piece t w h g =
    sym (number-drop b q t w) ∙ sym (number-take (drop q b) (length piece) t w g) ∙ ap (λ xs. number xs t w) h

-- a number that is spelled at a place is read there
pub Stands-low_bytes : (b : List ℕ) (q k n t w : ℕ) → Stands b q (low_bytes k n) → n < 2 ^ (8 * k) → t ≡ 8 * q → w ≡ 8 * k → number b t w ≡ n
Stands-low_bytes b q k n t w h small place wide =
    let from : t ≡ 8 * q + 0 = omega arith in
    let room : 0 + 8 * k ≤ 8 * length (low_bytes k n) = rw length-low_bytes (omega arith) in
    rw (from, wide) (Stands-number b q (low_bytes k n) 0 (8 * k) h room ∙ number-low_bytes_all k n small)

-- what follows a piece of n bytes
pub Stands-past : (b : List ℕ) (q n : ℕ) (xs ys : List ℕ) → length xs ≡ n → Stands b q (xs ++ ys) → Stands b (q + n) ys
Stands-past b q n xs ys e h = subst (λ (m : ℕ). Stands b (q + m) ys) e (Stands-behind b q xs ys h)

-- what follows a number that is spelled
pub Stands-past_number : (b : List ℕ) (q k n : ℕ) (ys : List ℕ) → Stands b q (low_bytes k n ++ ys) → Stands b (q + k) ys
Stands-past_number b q k n ys h = Stands-past b q k (low_bytes k n) ys (length-low_bytes k n) h

-- a number with which a piece begins
pub Stands-number_first : (b : List ℕ) (q k n t w : ℕ) (ys : List ℕ) → Stands b q (low_bytes k n ++ ys) → n < 2 ^ (8 * k) → t ≡ 8 * q → w ≡ 8 * k → number b t w ≡ n
Stands-number_first b q k n t w ys h small place wide =
    Stands-low_bytes b q k n t w (Stands-front b q (low_bytes k n) ys h) small place wide

-- What byteorder reads, lowest byte first, in bits.
use Rattle.std.proofs.Common.{◌≡◌, ℕ, zero, suc, ◌+◌, ◌*◌, ◌<◌, List, drop, get_or, sym, ap, ◌∙◌, arith, add-zero, get_or-drop, length, slice_range}
use Rattle.std.proofs.Math.Nat.{le_refl}
use Rattle.std.proofs.lemmas.Slice.{between_to_end}
use Rattle.byteorder.specs.Endian.{little_from, little_number}
use Rattle.e57_bits.specs.Bits.{number}
use Rattle.e57_bits.proofs.BitLaws.{number-zero, number-split, number-byte, number-drop}

-- the n bytes from place i are 8 * n bits
pub little_from-bits : (xs : List ℕ) → ((k : ℕ) → get_or xs k 0 < 256) → (i n : ℕ) → little_from i n xs ≡ number xs (8 * i) (8 * n)
little_from-bits xs small i zero = sym (number-zero xs (8 * i))
little_from-bits xs small i (suc n) =
    let width : 8 * suc n ≡ 8 + 8 * n = omega arith in
    let place : 8 * i + 8 ≡ 8 * suc i = omega arith in
    rw (width, number-split xs (8 * i) 8 (8 * n), number-byte xs i (small i), place, little_from-bits xs small (suc i) n)

-- the same at a place of a longer list
pub little_number-bits : (xs : List ℕ) → ((k : ℕ) → get_or xs k 0 < 256) → (at n : ℕ) → little_number n (slice_range xs at (length xs)) ≡ number xs (8 * at) (8 * n)
little_number-bits xs small at n =
    rw (between_to_end xs at (length xs) (le_refl (length xs)))
    (little_from-bits (drop at xs) (λ k. rw get_or-drop (small (at + k))) 0 n ∙ number-drop xs at 0 (8 * n) ∙ ap (λ t. number xs t (8 * n)) (add-zero (8 * at)))

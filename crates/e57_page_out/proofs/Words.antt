-- The word of a page, and the zeros before it.
use Rattle.std.proofs.Common.{◌≡◌, ℕ, ◌+◌, ◌-◌, ◌/◌, ◌%◌, ◌≤◌, List, [], ◌∷◌, ◌++◌, length, take, drop, replicate, reverse, refl, ap, ◌∙◌, arith}
use Rattle.std.proofs.lemmas.List.{length-append, length-take-le, length-replicate, take_at, take-replicate}
use Rattle.e57_base.specs.MemTarget.{with_piece}
use Rattle.e57_layout.specs.Bytes.{low_bytes}

-- the four bytes of a number, the most significant first
pub high_bytes : (n : ℕ) → n / 16777216 % 256 ∷ n / 65536 % 256 ∷ n / 256 % 256 ∷ n % 256 ∷ [] ≡ reverse (low_bytes 4 n)
unfolding low_bytes
high_bytes n =
    let two : n / 256 / 256 ≡ n / 65536 = omega arith in
    let three : n / 256 / 256 / 256 ≡ n / 16777216 = omega arith in
    rw (three, two) refl

pub with_zeros : (at : ℕ) (page zeros : List ℕ) → at ≤ 1020 → at ≤ length page → zeros ≡ take (1020 - at) (replicate 1020 0) → take 1020 (with_piece at zeros page) ≡ take at page ++ replicate (1020 - at) 0
with_zeros at page zeros low within is =
    let same : zeros ≡ replicate (1020 - at) 0 = is ∙ take-replicate (1020 - at) 1020 0 (omega arith) in
    let size : length (take at page ++ zeros) ≡ 1020 = omega (arith, length-append (take at page) zeros, length-take-le at page within, ap length same, length-replicate {A = ℕ} (1020 - at) 0) in
    take_at (take at page ++ zeros) (drop (at + length zeros) page) 1020 size ∙ ap (λ (xs : List ℕ). take at page ++ xs) same

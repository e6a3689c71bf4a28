-- The lengths of a data packet's streams, one after another.
use Rattle.std.proofs.Common.{◌≡◌, ℕ, zero, suc, ◌+◌, ◌*◌, ◌^◌, ◌<◌, ◌≤◌, List, [], ◌∷◌, ◌++◌, ap, ◌∙◌, arith}
use Rattle.std.specs.Prelude.{sum}
use Rattle.std.proofs.lemmas.List.Sums.{sum_by-append, sum_by-cons}
use Rattle.e57_bits.specs.Bits.{number}
use Rattle.e57_bits.proofs.BitLaws.{number-lt}
use Rattle.e57_layout.specs.Packets.{lengths_at}
use Rattle.e57_packet.specs.Reading.{stream_ends}

-- one length more
pub lengths-push : (b : List ℕ) (q k : ℕ) → lengths_at b q (k + 1) ≡ lengths_at b q k ++ number b (8 * (q + 2 * k)) 16 ∷ []
unfolding lengths_at
lengths-push b q zero = ap (λ t. number b (8 * t) 16 ∷ []) (omega arith)
lengths-push b q (suc k) =
    let place : q + 2 + 2 * k ≡ q + 2 * suc k = omega arith in
    let more : suc k + 1 ≡ suc (k + 1) = omega arith in
    rw (more, lengths-push b (q + 2) k, place)

pub sum-push : (ns : List ℕ) (n : ℕ) → sum (ns ++ n ∷ []) ≡ sum ns + n
sum-push ns n = sum_by-append (λ x. x) ns (n ∷ []) ∙ ap (λ m. sum ns + m) (sum_by-cons (λ x. x) n [] ∙ omega arith)

pub sum-lengths : (b : List ℕ) (q k : ℕ) → sum (lengths_at b q (k + 1)) ≡ sum (lengths_at b q k) + number b (8 * (q + 2 * k)) 16
sum-lengths b q k = rw (lengths-push b q k) (sum-push (lengths_at b q k) (number b (8 * (q + 2 * k)) 16))

-- streams are short
pub sum-lengths-le : (b : List ℕ) (q k : ℕ) → sum (lengths_at b q k) ≤ 65535 * k
unfolding lengths_at
sum-lengths-le b q zero = omega arith
sum-lengths-le b q (suc k) =
    let first : number b (8 * q) 16 < 2 ^ 16 = number-lt b (8 * q) 16 in
    let rest : sum (lengths_at b (q + 2) k) ≤ 65535 * k = sum-lengths-le b (q + 2) k in
    let split : sum (number b (8 * q) 16 ∷ lengths_at b (q + 2) k) ≡ number b (8 * q) 16 + sum (lengths_at b (q + 2) k) = sum_by-cons (λ x. x) (number b (8 * q) 16) (lengths_at b (q + 2) k) in
    omega arith

-- one end more
pub ends-push : (at n : ℕ) (ns : List ℕ) → stream_ends at (ns ++ n ∷ []) ≡ stream_ends at ns ++ (at + sum ns + n) ∷ []
ends-push at n [] = ap (λ m. m ∷ []) (omega arith)
ends-push at n (m ∷ ns) =
    let split : sum (m ∷ ns) ≡ m + sum ns = sum_by-cons (λ x. x) m ns in
    let place : at + m + sum ns + n ≡ at + sum (m ∷ ns) + n = omega arith in
    ap (λ ends. (at + m) ∷ ends) (ends-push (at + m) n ns ∙ ap (λ e. stream_ends (at + m) ns ++ e ∷ []) place)

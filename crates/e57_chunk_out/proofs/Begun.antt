-- Laws of how many chunks are begun.
use Rattle.std.proofs.Common.{◌≡◌, ℕ, ◌+◌, ◌-◌, ◌*◌, ◌/◌, ◌%◌, ◌<◌, ◌≤◌, sym, ap, ◌∙◌, arith, ⊎_elim, mul-le-mul_left, min}
use Rattle.std.proofs.lemmas.Bool.{cases_lt}
use Rattle.std.proofs.lemmas.Nat.{div-mul-add}
use Rattle.std.proofs.Math.Nat.{div-add-mod}
use Rattle.e57_chunk_out.specs.Progress.{in_chunks}
use Rattle.e57_chunk_out.specs.Turns.{chunks_begun}
use Rattle.e57_chunk_out.proofs.Turning.{in_chunks-parts}

-- the records of the open chunk
pub rest-mod : (n e : ℕ) → e - in_chunks n e ≡ e % n
unfolding in_chunks
rest-mod n e =
    let sum : n * (e / n) + e % n ≡ e = div-add-mod e n in
    omega (arith, sum)

grown : (n q : ℕ) → n * (q + 1) ≡ n * q + n
grown n q = grind arith

turned : (n q : ℕ) → n * q ≡ q * n
turned n q = grind arith

begun_at : (n q c : ℕ) → c < n → (n * q + c) / n ≡ q
begun_at n q c h = ap (λ a. (a + c) / n) (turned n q) ∙ div-mul-add q n c h

-- where whole chunks are full
pub begun-whole : (n q : ℕ) → 0 < n → chunks_begun n (n * q) ≡ q
begun-whole n q some = begun_at n q (n - 1) (omega arith)

-- and where one is open
begun-open : (n q c : ℕ) → 0 < c → c ≤ n → chunks_begun n (n * q + c) ≡ q + 1
begun-open n q c some few =
    let next = grown n q in
    let sum : n * q + c + (n - 1) ≡ n * (q + 1) + (c - 1) = omega (arith, next) in
    ap (λ a. a / n) sum ∙ begun_at n (q + 1) (c - 1) (omega arith)

-- the first records of a chunk
pub begun-next : (n e k : ℕ) → 0 < n → e % n ≡ 0 → 0 < k → k ≤ n → chunks_begun n (e + k) ≡ chunks_begun n e + 1
begun-next n e k some none more few =
    let parts : n * (e / n) + e % n ≡ e = div-add-mod e n in
    let whole : e ≡ n * (e / n) = omega (arith, parts, none) in
    ap (λ m. chunks_begun n (m + k)) whole ∙ begun-open n (e / n) k more few ∙ ap (λ m. m + 1) (sym (begun-whole n (e / n) some)) ∙ ap (λ m. chunks_begun n m + 1) (sym whole)

-- more of them
pub begun-same : (n e k : ℕ) → 0 < n → 0 < e % n → e % n + k ≤ n → chunks_begun n (e + k) ≡ chunks_begun n e
begun-same n e k some more few =
    let parts : n * (e / n) + e % n ≡ e = div-add-mod e n in
    let sum : e + k ≡ n * (e / n) + (e % n + k) = omega (arith, parts) in
    ap (chunks_begun n) sum ∙ begun-open n (e / n) (e % n + k) (omega arith) few ∙ sym (begun-open n (e / n) (e % n) more (omega arith)) ∙ ap (chunks_begun n) parts

-- there is room for one more
pub begun-room : (n e most : ℕ) → 0 < n → e % n ≡ 0 → e < most → chunks_begun n e < chunks_begun n most
begun-room n e most some none more =
    let parts : n * (e / n) + e % n ≡ e = div-add-mod e n in
    let whole : e ≡ n * (e / n) = omega (arith, parts, none) in
    let here : chunks_begun n e ≡ e / n = ap (chunks_begun n) whole ∙ begun-whole n (e / n) some in
    let all = in_chunks-parts n most some in
    let order : e / n ≤ all.q = ⊎_elim
    (λ (less : all.q < e / n).
    let over : n * (all.q + 1) ≤ n * (e / n) = mul-le-mul_left n (omega (arith, less)) in
    let next = grown n all.q in
    absurd (omega (arith, over, next, whole, all.sum, all.below, more)))
    (λ (least : e / n ≤ all.q). least)
    (cases_lt all.q (e / n)) in
    ⊎_elim
    (λ (few : all.c < 1).
    let none : all.c ≡ 0 = omega arith in
    let exact : most ≡ n * all.q = omega (arith, all.sum) in
    let there : chunks_begun n most ≡ all.q = ap (chunks_begun n) exact ∙ begun-whole n all.q some in
    let apart : e / n < all.q = ⊎_elim (λ (l : e / n < all.q). l) (λ (g : all.q ≤ e / n).
    let same : all.q ≡ e / n = omega (arith, order) in
    let equal : n * all.q ≡ n * (e / n) = ap (λ q. n * q) same in
    absurd (omega (arith, equal, exact, whole, more))) (cases_lt (e / n) all.q) in
    omega (arith, here, there))
    (λ (many : 1 ≤ all.c).
    let there : chunks_begun n most ≡ all.q + 1 = ap (chunks_begun n) all.sum ∙ begun-open n all.q all.c (omega arith) (omega (arith, all.below)) in
    omega (arith, here, there, order))
    (cases_lt all.c 1)

-- the first record begins a chunk
pub begun-some : (n e : ℕ) → 0 < n → 0 < e → 0 < chunks_begun n e
begun-some n e some more =
    let parts = in_chunks-parts n e some in
    ⊎_elim
    (λ (few : parts.c < 1).
    let exact : e ≡ n * parts.q = omega (arith, few, parts.sum) in
    let here : chunks_begun n e ≡ parts.q = ap (chunks_begun n) exact ∙ begun-whole n parts.q some in
    ⊎_elim
    (λ (none : parts.q < 1).
    let zero : parts.q ≡ 0 = omega (arith, none) in
    let nothing : n * parts.q ≡ 0 = ap (λ q. n * q) zero ∙ times-none n in
    absurd (omega (arith, exact, nothing, more)))
    (λ (one : 1 ≤ parts.q). omega (arith, here, one))
    (cases_lt parts.q 1))
    (λ (many : 1 ≤ parts.c).
    let here : chunks_begun n e ≡ parts.q + 1 = ap (chunks_begun n) parts.sum ∙ begun-open n parts.q parts.c (omega (arith, many)) (omega (arith, parts.below)) in
    omega (arith, here))
    (cases_lt parts.c 1)
  where
    times-none : (n : ℕ) → n * 0 ≡ 0
    times-none n = grind arith

-- as it is computed: the quotient, and one more where something is left
pub begun-ceil : (n most : ℕ) → 0 < n → most / n + min 1 (most % n) ≡ chunks_begun n most
begun-ceil n most some =
    let parts : n * (most / n) + most % n ≡ most = div-add-mod most n in
    ⊎_elim
    (λ (few : most % n < 1).
    let whole : most ≡ n * (most / n) = omega (arith, parts, few) in
    let there : chunks_begun n most ≡ most / n = ap (chunks_begun n) whole ∙ begun-whole n (most / n) some in
    omega (arith, there, few))
    (λ (many : 1 ≤ most % n).
    let below : most % n < n = omega (arith, some) in
    let there : chunks_begun n most ≡ most / n + 1 = ap (chunks_begun n) (sym parts) ∙ begun-open n (most / n) (most % n) many (omega (arith, below)) in
    omega (arith, there, many))
    (cases_lt (most % n) 1)

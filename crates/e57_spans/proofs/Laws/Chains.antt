-- Laws of spans that follow one another: they have each record once, in order.
use Rattle.std.specs.Prelude.{◌≡◌, ℕ, zero, suc, ◌+◌, ◌-◌, ◌<◌, ◌≤◌, ◌⊎◌, List, [], ◌∷◌, ◌++◌, flat_map, Contains}
use Rattle.std.specs.List.{range_with_len}
use Rattle.std.proofs.Common.{refl, sym, ap, subst, ◌∙◌, arith, ⊎_elim, inl, inr, add-zero, zero-add}
use Rattle.std.proofs.lemmas.Bool.{cases_lt}
use Rattle.std.proofs.lemmas.List.Elements.{Contains-append_left, Contains-append_right, Contains-append_cases}
use Rattle.e57_spans.specs.Spans.{Span, records_in, IsChain, IsSpanOf}

-- ---- membership

pub among-one : (x : Span) → Contains (x ∷ []) x
among-one x = (0, omega arith, refl)

only-one : (y x : Span) → Contains (y ∷ []) x → y ≡ x
only-one y x (zero, low, is) = is
only-one y x (suc k, low, is) = absurd (omega arith)

pub among-cases : (y : Span) (ys : List Span) (x : Span) → Contains (y ∷ ys) x → (y ≡ x) ⊎ Contains ys x
among-cases y ys x among =
    ⊎_elim (λ (this : Contains (y ∷ []) x). inl (only-one y x this)) (λ (later : Contains ys x). inr later) (Contains-append_cases (y ∷ []) ys x among)

pub of-left : (xs ys : List Span) (i : ℕ) (x : Span) → IsSpanOf xs i x → IsSpanOf (xs ++ ys) i x
of-left xs ys i x is = record { among = Contains-append_left xs ys x is.among; low = is.low; high = is.high }

pub of-right : (xs ys : List Span) (i : ℕ) (x : Span) → IsSpanOf ys i x → IsSpanOf (xs ++ ys) i x
of-right xs ys i x is = record { among = Contains-append_right xs ys x is.among; low = is.low; high = is.high }

-- ---- chains

pub chain-le : (first until : ℕ) (spans : List Span) → IsChain first until spans → first ≤ until
chain-le first until [] chain = omega arith
chain-le first until (x ∷ xs) chain = let rest = chain-le x.until until xs chain.2 in omega (arith, chain.1)

pub chain-append : (first mid until : ℕ) (xs ys : List Span) → IsChain first mid xs → IsChain mid until ys → IsChain first until (xs ++ ys)
chain-append first mid until [] ys left right = subst (λ (n : ℕ). IsChain n until ys) (sym left) right
chain-append first mid until (x ∷ xs) ys left right = (left.0, left.1, chain-append x.until mid until xs ys left.2 right)

range-append : (a m n : ℕ) → range_with_len a (m + n) ≡ range_with_len a m ++ range_with_len (a + m) n
range-append a zero n = rw (zero-add, add-zero)
range-append a (suc m) n =
    let size : suc m + n ≡ suc (m + n) = omega arith in
    let place : a + suc m ≡ a + 1 + m = omega arith in
    rw (size, place) (ap (λ (later : List ℕ). a ∷ later) (range-append (a + 1) m n))

-- their records are all of these, each once and in order
pub chain-records : (first until : ℕ) (spans : List Span) → IsChain first until spans → flat_map records_in spans ≡ range_with_len first (until - first)
chain-records first until [] chain = let none : until - first ≡ 0 = omega arith in rw none
chain-records first until (x ∷ xs) chain =
    let most = chain-le x.until until xs chain.2 in
    let size : until - first ≡ x.until - x.first + (until - x.until) = omega (arith, chain.0, chain.1) in
    let place : x.first + (x.until - x.first) ≡ x.until = omega (arith, chain.0, chain.1) in
    rw (size, ← chain.0, range-append x.first (x.until - x.first) (until - x.until), place) (ap (λ (later : List ℕ). records_in x ++ later) (chain-records x.until until xs chain.2))

-- each of the spans lies between the ends, and has a record
pub chain-within : (first until : ℕ) (spans : List Span) (x : Span) → IsChain first until spans → Contains spans x → (first ≤ x.first) × (x.first < x.until) × (x.until ≤ until)
chain-within first until [] x chain among = absurd (omega (arith, among.1))
chain-within first until (y ∷ ys) x chain among =
    ⊎_elim
    (λ (this : y ≡ x).
    let most = chain-le y.until until ys chain.2 in
    let start : y.first ≡ x.first = ap (λ (z : Span). z.first) this in
    let ends : y.until ≡ x.until = ap (λ (z : Span). z.until) this in
    (omega (arith, chain.0), omega (arith, chain.0, chain.1), omega arith))
    (λ (later : Contains ys x). let rest = chain-within y.until until ys x chain.2 later in (omega (arith, rest.0, chain.1), rest.1, rest.2))
    (among-cases y ys x among)

-- each record has a span
pub chain-has : (first until : ℕ) (spans : List Span) (i : ℕ) → IsChain first until spans → first ≤ i → i < until → (x : Span) × IsSpanOf spans i x
chain-has first until [] i chain low high = absurd (omega (arith, chain))
chain-has first until (x ∷ xs) i chain low high =
    ⊎_elim
    (λ (this : i < x.until). (x, of-left (x ∷ []) xs i x (record { among = among-one x; low = omega (arith, chain.0); high = this })))
    (λ (past : x.until ≤ i). let later = chain-has x.until until xs i chain.2 past high in (later.0, of-right (x ∷ []) xs i later.0 later.1))
    (cases_lt i x.until)

-- and no other one
pub chain-one : (first until : ℕ) (spans : List Span) (i : ℕ) (x y : Span) → IsChain first until spans → IsSpanOf spans i x → IsSpanOf spans i y → x ≡ y
chain-one first until [] i x y chain f g = absurd (omega (arith, f.among.1))
chain-one first until (z ∷ zs) i x y chain f g =
    let low = f.low in
    let high = f.high in
    let low_too = g.low in
    let high_too = g.high in
    ⊎_elim
    (λ (is : z ≡ x).
    ⊎_elim
    (λ (is_too : z ≡ y). sym is ∙ is_too)
    (λ (later : Contains zs y).
    let ends : z.until ≡ x.until = ap (λ (w : Span). w.until) is in
    let within = chain-within z.until until zs y chain.2 later in
    absurd (omega (arith, within.0)))
    (among-cases z zs y g.among))
    (λ (later : Contains zs x).
    ⊎_elim
    (λ (is_too : z ≡ y).
    let ends : z.until ≡ y.until = ap (λ (w : Span). w.until) is_too in
    let within = chain-within z.until until zs x chain.2 later in
    absurd (omega (arith, within.0)))
    (λ (later_too : Contains zs y). chain-one z.until until zs i x y chain.2 (record { among = later; low = f.low; high = f.high }) (record { among = later_too; low = g.low; high = g.high }))
    (among-cases z zs y g.among))
    (among-cases z zs x f.among)

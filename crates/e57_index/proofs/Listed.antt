-- Entries of an index packet one by one.
use Rattle.std.proofs.Common.{◌≡◌, ℕ, zero, suc, ◌+◌, ◌-◌, ◌*◌, ◌<◌, ◌≤◌, true, false, List, [], ◌∷◌, refl, arith, inl, inr}
use Rattle.std.proofs.lemmas.Bool.{lt-ltb, le-ltb, lt-leb, le-leb, eq-eqb, ne_eqb}
use Rattle.e57_layout.specs.IndexPackets.{entry_at, entries_at}
use Rattle.e57_cloud.specs.Index.{rises, begins_and_rises, next_first, HasEntry}

pub entries-zero : (b : List ℕ) (q : ℕ) → entries_at b q 0 ≡ []
unfolding entries_at
entries-zero b q = refl

pub entries-suc : (b : List ℕ) (q n : ℕ) → entries_at b q (suc n) ≡ entry_at b q ∷ entries_at b (q + 16) n
unfolding entries_at
entries-suc b q n = refl

left : (n k : ℕ) → k < n → n - k ≡ suc (n - (k + 1))
left n k below = omega arith

-- entry k rises: what is left is that the others do
pub rises-step : (b : List ℕ) (least bound n k : ℕ) → k < n → least ≤ (entry_at b (16 * k)).first → (entry_at b (16 * k)).first < bound → rises least bound (entries_at b (16 * k) (n - k)) ≡ rises ((entry_at b (16 * k)).first + 1) bound (entries_at b (16 * (k + 1)) (n - (k + 1)))
unfolding rises entries_at
rises-step b least bound n k below low high =
    let more = left n k below in
    let next : 16 * (k + 1) ≡ 16 * k + 16 = omega arith in
    rw (more, next, le-leb least (entry_at b (16 * k)).first low, lt-ltb (entry_at b (16 * k)).first bound high) refl

pub rises-low : (b : List ℕ) (least bound n k : ℕ) → k < n → (entry_at b (16 * k)).first < least → rises least bound (entries_at b (16 * k) (n - k)) ≡ false
unfolding rises entries_at
rises-low b least bound n k below low = rw (left n k below, lt-leb least (entry_at b (16 * k)).first low) refl

pub rises-high : (b : List ℕ) (least bound n k : ℕ) → k < n → least ≤ (entry_at b (16 * k)).first → bound ≤ (entry_at b (16 * k)).first → rises least bound (entries_at b (16 * k) (n - k)) ≡ false
unfolding rises entries_at
rises-high b least bound n k below low high = rw (left n k below, le-leb least (entry_at b (16 * k)).first low, le-ltb (entry_at b (16 * k)).first bound high) refl

pub rises-none : (b : List ℕ) (least bound q n k : ℕ) → n ≤ k → rises least bound (entries_at b q (n - k)) ≡ true
unfolding rises entries_at
rises-none b least bound q n k above = let none : n - k ≡ 0 = omega arith in rw none refl

-- entries begin with a record
pub begins-same : (b : List ℕ) (first bound n : ℕ) → 0 < n → (entry_at b 0).first ≡ first → begins_and_rises first bound (entries_at b 0 n) ≡ rises first bound (entries_at b 0 n)
unfolding begins_and_rises entries_at
begins-same b first bound zero some is = absurd (omega arith)
begins-same b first bound (suc n) some is = rw (eq-eqb (entry_at b 0).first first is) refl

pub begins-other : (b : List ℕ) (first bound n : ℕ) → 0 < n → ((entry_at b 0).first ≡ first → ⊥) → begins_and_rises first bound (entries_at b 0 n) ≡ false
unfolding begins_and_rises entries_at
begins-other b first bound zero some other = absurd (omega arith)
begins-other b first bound (suc n) some other = rw (ne_eqb (entry_at b 0).first first other) refl

-- entry k has the records up to the next entry's
pub has-inner : (b : List ℕ) (bound q n k : ℕ) → k + 1 < n → HasEntry bound (entries_at b q n) (entry_at b (q + 16 * k)) (entry_at b (q + 16 * (k + 1))).first
unfolding entries_at
has-inner b bound q zero k below = absurd (omega arith)
has-inner b bound q (suc zero) k below = absurd (omega arith)
has-inner b bound q (suc (suc n)) zero below =
    let here : q + 16 * 0 ≡ q = omega arith in
    let next : q + 16 * (0 + 1) ≡ q + 16 = omega arith in
    rw (here, next) (inl (refl, refl))
has-inner b bound q (suc (suc n)) (suc k) below =
    let here : q + 16 * suc k ≡ q + 16 + 16 * k = omega arith in
    let next : q + 16 * (suc k + 1) ≡ q + 16 + 16 * (k + 1) = omega arith in
    rw (here, next) (inr (has-inner b bound (q + 16) (suc n) k (omega arith)))

-- the last entry has the records up to the bound
pub has-last : (b : List ℕ) (bound q n : ℕ) → HasEntry bound (entries_at b q (suc n)) (entry_at b (q + 16 * n)) bound
unfolding entries_at
has-last b bound q zero =
    let here : q + 16 * 0 ≡ q = omega arith in
    rw here (inl (refl, refl))
has-last b bound q (suc n) =
    let here : q + 16 * suc n ≡ q + 16 + 16 * n = omega arith in
    rw here (inr (has-last b bound (q + 16) n))

-- entry k ends where the next one begins
pub next-inner : (b : List ℕ) (bound n k : ℕ) → k + 1 < n → next_first bound (entries_at b (16 * (k + 1)) (n - (k + 1))) ≡ (entry_at b (16 * (k + 1))).first
unfolding entries_at
next-inner b bound n k below = rw (left n (k + 1) below) refl

-- the last one at the bound
pub next-last : (b : List ℕ) (bound n k : ℕ) → n ≤ k + 1 → next_first bound (entries_at b (16 * (k + 1)) (n - (k + 1))) ≡ bound
unfolding entries_at
next-last b bound n k past = let none : n - (k + 1) ≡ 0 = omega arith in rw none refl

-- from entry k on: entry k, and those from the next one on
pub from-entry : (b : List ℕ) (n k : ℕ) → k < n → entries_at b (16 * k) (n - k) ≡ entry_at b (16 * k) ∷ entries_at b (16 * (k + 1)) (n - (k + 1))
unfolding entries_at
from-entry b n k below =
    let next : 16 * (k + 1) ≡ 16 * k + 16 = omega arith in
    rw (left n k below, next) refl

pub none-from : (b : List ℕ) (q n k : ℕ) → n ≤ k → entries_at b q (n - k) ≡ []
unfolding entries_at
none-from b q n k past = let none : n - k ≡ 0 = omega arith in rw none refl

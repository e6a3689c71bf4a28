-- The pages of a packet, by its two reads.
use Rattle.std.specs.Prelude.{◌≡◌, ℕ, ◌+◌, ◌/◌, ◌<◌, ◌≤◌, true, List, []}
use Rattle.std.proofs.Common.{sym, subst, arith, inl, inr, ⊎_elim}
use Rattle.std.proofs.lemmas.Bool.Decides.{nat_tests}
use Rattle.std.proofs.lemmas.Bool.{cases_lt}
use Rattle.std.proofs.lemmas.List.{append-nil}
use Rattle.e57_base.specs.Source.{SourceView}
use Rattle.e57_page.specs.Place.{span_end}
use Rattle.e57_page.specs.Kept.{is_kept}
use Rattle.e57_page.specs.Pages.{AsksFor}
use Rattle.e57_page.proofs.PagesLaws.{asks_for_on, asks_unkept_from}
use Rattle.e57_cloud.specs.Met.{InSpan}
use Rattle.e57_section.specs.Asking.{AsksSpan, KeepsSpan, KeepsOnly, AsksPacket}

-- four bytes are no more than n
pub head_end : (q n : ℕ) → 4 ≤ n → span_end q 4 ≤ span_end q n
head_end q n h = grind (arith, nat_tests)

head_begin : (q : ℕ) → (q / 1020 < span_end q 4) × (span_end q 4 ≤ q / 1020 + 2)
head_begin q = (grind (arith, nat_tests), grind (arith, nat_tests))

-- the head alone
pub asks_head : (kept : List ℕ) (q n : ℕ) (old new : SourceView) → AsksSpan kept q 4 old new → AsksPacket kept q n old new
asks_head kept q n old new (pages, rises, unkept, asks) =
    record { head = pages; body = []; head_rises = rises; head_unkept = unkept; body_rises = tt; asks = subst (λ (l : List ℕ). AsksFor old l new) (sym (append-nil pages)) asks }

-- the pages of the head are kept when the body is read
kept_head : (kept mid : List ℕ) (q : ℕ) → KeepsSpan kept q 4 mid → (k : ℕ) → q / 1020 ≤ k → k < span_end q 4 → is_kept mid k ≡ true
kept_head kept mid q keeps k low high =
    let limits = head_begin q in
    keeps.last k high (omega (arith, limits.1, low)) (inl low)

-- the head, and then all
pub asks_all : (kept mid : List ℕ) (q n : ℕ) (a b c : SourceView) → AsksSpan kept q 4 a b → KeepsSpan kept q 4 mid → AsksSpan mid q n b c → AsksPacket kept q n a c
asks_all kept mid q n a b c (first, rises, unkept, asks) keeps next =
    let rest = asks_unkept_from mid (q / 1020) (span_end q 4) (span_end q n) b c (kept_head kept mid q keeps) next in
    record { head = first; body = rest.0; head_rises = rises; head_unkept = unkept; body_rises = rest.1; asks = asks_for_on first rest.0 asks rest.3 }

-- what is kept after both
pub keeps_all : (kept mid now : List ℕ) (q n : ℕ) → 4 ≤ n → KeepsSpan kept q 4 mid → KeepsSpan mid q n now → KeepsSpan kept q n now
keeps_all kept mid now q n some first next =
    let end = head_end q n some in
    let limits = head_begin q in
    record {
      last = λ k below near known.
          ⊎_elim
          (λ (low : k < q / 1020). next.last k below near (inr (⊎_elim (λ (here : q / 1020 ≤ k). absurd (omega arith)) (λ (was : is_kept kept k ≡ true). first.last k (omega (arith, low, limits.0)) (omega (arith, near, end)) (inr was)) known)))
          (λ (high : q / 1020 ≤ k). next.last k below near (inl high))
          (cases_lt k (q / 1020));
      later = λ k from below. absurd (omega arith);
      no_other = λ k is.
          ⊎_elim
          (λ (was : is_kept mid k ≡ true). ⊎_elim
          (λ (before : is_kept kept k ≡ true). inl before)
          (λ (here : (q / 1020 ≤ k) × (k < span_end q 4)). inr (here.0, omega (arith, here.1, end)))
          (first.no_other k was))
          (λ (here : (q / 1020 ≤ k) × (k < span_end q n)). inr here)
          (next.no_other k is);
    }

pub only_more : (kept now : List ℕ) (q n : ℕ) → 4 ≤ n → KeepsOnly kept q 4 now → KeepsOnly kept q n now
only_more kept now q n some keeps k is =
    let end = head_end q n some in
    ⊎_elim
    (λ (before : is_kept kept k ≡ true). inl before)
    (λ (here : InSpan q 4 k). inr (here.0, omega (arith, here.1, end)))
    (keeps k is)

pub only_all : (kept mid now : List ℕ) (q n : ℕ) → 4 ≤ n → KeepsSpan kept q 4 mid → KeepsOnly mid q n now → KeepsOnly kept q n now
only_all kept mid now q n some first next k is =
    let end = head_end q n some in
    ⊎_elim
    (λ (was : is_kept mid k ≡ true). ⊎_elim
    (λ (before : is_kept kept k ≡ true). inl before)
    (λ (here : (q / 1020 ≤ k) × (k < span_end q 4)). inr (here.0, omega (arith, here.1, end)))
    (first.no_other k was))
    (λ (here : InSpan q n k). inr here)
    (next k is)

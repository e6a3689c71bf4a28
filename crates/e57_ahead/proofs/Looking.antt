-- A search, packet by packet.
use Rattle.std.specs.Prelude.{◌≡◌, ℕ, ◌+◌, ◌-◌, ◌<◌, ◌≤◌, ◌⊎◌, false, List, Option, Some, None, IfSome, Err}
use Rattle.std.proofs.Common.{refl, sym, arith, ⊎_elim}
use Rattle.std.proofs.lemmas.Bool.{cases_lt, lt-ltb, le-ltb}
use Rattle.e57_base.proofs.CountLaws.{rose_before}
use Rattle.e57_base.specs.Source.{SourceView}
use Rattle.e57_base.proofs.Told.{told_map, told_both, told_here}
use Rattle.e57_base.specs.declared.fault.ReadFault.{ReadFault}
use Rattle.e57_base.specs.declared.fault.ReadFault.TheVariants.{Refused, Source}
use Rattle.e57_layout.specs.declared.field.Fixed.{Fixed}
use Rattle.e57_layout.specs.declared.section.Section.{Section}
use Rattle.e57_cloud.specs.PathItem.{chunk_at}
use Rattle.e57_ahead.specs.declared.reached.Reached.{Reached}
use Rattle.e57_ahead.specs.declared.reached.Covered.{Covered}
use Rattle.e57_ahead.specs.Counting.{IsWidth, IsWithin, StandsIn, OnWay, items, has_ended, answered}
use Rattle.e57_ahead.specs.Finding.{AsksOf, OfPacket, Steps, IsBeyond, IsStepCause, StepsNot, Moves, HasRecords, Finds, IsFindCause, FindsNot}
use Rattle.e57_ahead.proofs.Standing.{packet-way, known-records}
use Rattle.e57_ahead.proofs.Pages.{asks-none, asks-on, asks-allow}

-- the pages that a search from here allows
abbrev pub Allows : Section → Fixed → ℕ → Reached → List ℕ → ℕ → Type 0
Allows s fixed i r file p = StandsIn file s fixed r → OnWay file s fixed i p

-- from r the search for record i went on to here
pub record Looks (old : SourceView) (s : Section) (fixed : Fixed) (i : ℕ) (r now : Reached) (new : SourceView) : Type 0 where
  pub source : AsksOf (Allows s fixed i r) r.taken now.taken old new
  pub within : IsWithin s now
  pub forward : r.taken ≤ now.taken
  pub first : now.first ≤ i
  pub kept : IfSome old.held (λ file. StandsIn file s fixed r → StandsIn file s fixed now)

pub looks-none : (view : SourceView) (s : Section) (fixed : Fixed) (i : ℕ) (r : Reached) → IsWithin s r → r.first ≤ i → Looks view s fixed i r r view
looks-none view s fixed i r within low = record {
  source = asks-none (Allows s fixed i r) r.taken view;
  within = within;
  forward = omega arith;
  first = low;
  kept = same view.held;
}
  where
    same : (held : Option (List ℕ)) → IfSome held (λ file. StandsIn file s fixed r → StandsIn file s fixed r)
    same None = tt
    same (Some file) = λ stands. stands

-- the pages of the packet that comes are allowed
allows-packet : (old mid : SourceView) (s : Section) (fixed : Fixed) (i : ℕ) (r now : Reached) → Looks old s fixed i r now mid → now.taken + 4 ≤ s.end → items fixed now ≤ i - now.first
    → IfSome mid.held (λ file. (p : ℕ) → OfPacket s now file p → Allows s fixed i r file p)
allows-packet old mid s fixed i r now looks there few =
    told_here (λ file. (p : ℕ) → OfPacket s now file p → Allows s fixed i r file p) old.held mid.held looks.source.asks.same.held
    (told_map (λ file. StandsIn file s fixed r → StandsIn file s fixed now) (λ file. (p : ℕ) → OfPacket s now file p → Allows s fixed i r file p) old.held
    (λ file kept p of stands. packet-way file s fixed now i p (kept stands) there (looks.first, few) of) looks.kept)

-- one packet more
pub looks-step : (old mid new : SourceView) (s : Section) (fixed : Fixed) (i : ℕ) (r now next : Reached) → Looks old s fixed i r now mid → now.taken + 4 ≤ s.end → items fixed now ≤ i - now.first → Steps mid s fixed now next new → Looks old s fixed i r next new
looks-step old mid new s fixed i r now next looks there few steps =
    let forward = looks.forward in
    let on = steps.forward in
    let low = looks.first in
    let first = steps.first in
    record {
      source = asks-on (Allows s fixed i r) r.taken now.taken next.taken old mid new forward (omega (arith, on)) looks.source
          (asks-allow (OfPacket s now) (Allows s fixed i r) now.taken next.taken mid new (allows-packet old mid s fixed i r now looks there few) steps.source);
      within = steps.within;
      forward = omega (arith, forward, on);
      first = omega (arith, low, first, few);
      kept = told_both (λ file. StandsIn file s fixed r → StandsIn file s fixed now) (λ file. StandsIn file s fixed now → StandsIn file s fixed next) (λ file. StandsIn file s fixed r → StandsIn file s fixed next) old.held
          (λ file before after stands. after (before stands)) looks.kept
          (told_here (λ file. StandsIn file s fixed now → StandsIn file s fixed next) mid.held old.held (sym looks.source.asks.same.held) steps.stands);
    }

-- ---- the answer

until-after : (s : Section) (fixed : Fixed) (r : Reached) (i : ℕ) → r.first ≤ i → i < s.count → (s.end < r.taken + 4) ⊎ (i - r.first < items fixed r) → i < (answered s fixed r).until
until-after s fixed r i low high how =
    ⊎_elim
    (λ (over : s.end < r.taken + 4). rw (lt-ltb s.end (r.taken + 4) over) high)
    (λ (there : r.taken + 4 ≤ s.end).
    let last : has_ended s r ≡ false = le-ltb s.end (r.taken + 4) there in
    let enough : i - r.first < items fixed r = ⊎_elim (λ (over : s.end < r.taken + 4). absurd (omega (arith, over, there))) (λ (some : i - r.first < items fixed r). some) how in
    rw last (omega (arith, enough, low, high)))
    (cases_lt s.end (r.taken + 4))

until-few : (s : Section) (fixed : Fixed) (r : Reached) → (answered s fixed r).until ≤ s.count
until-few s fixed r =
    ⊎_elim
    (λ (over : s.end < r.taken + 4). rw (lt-ltb s.end (r.taken + 4) over) (omega arith))
    (λ (there : r.taken + 4 ≤ s.end). rw (le-ltb s.end (r.taken + 4) there) (omega arith))
    (cases_lt s.end (r.taken + 4))

pub looks-found : (old new : SourceView) (s : Section) (fixed : Fixed) (i : ℕ) (r now : Reached) (covered : Covered) → IsWidth fixed → s.data_place ≤ s.end → i < s.count → Looks old s fixed i r now new
    → covered ≡ answered s fixed now → (s.end < now.taken + 4) ⊎ (i - now.first < items fixed now) → Finds old (λ file. StandsIn file s fixed r) s fixed i r.taken covered now new
looks-found old new s fixed i r now covered width data_before high looks is how =
    let counted = looks.within.counted in
    let inside = looks.within.within data_before in
    rw is (record {
      source = looks.source;
      is = refl;
      after = looks.first;
      before = until-after s fixed now i looks.first high how;
      few = until-few s fixed now;
      begins = looks.within.begins;
      within = omega (arith, counted, inside);
      kept = looks.kept;
      read = told_map (λ file. StandsIn file s fixed r → StandsIn file s fixed now) (λ file. StandsIn file s fixed r → HasRecords file s fixed i (answered s fixed now)) old.held
          (λ file kept stands. known-records file s fixed now i width looks.first how (kept stands)) looks.kept;
    })

refused-cause : (old mid new : SourceView) (s : Section) (fixed : Fixed) (i : ℕ) (r now : Reached) (found : ReadFault) → Looks old s fixed i r now mid → items fixed now ≤ i - now.first → IsStepCause mid s fixed now found new → IsFindCause old (λ file. StandsIn file s fixed r) s fixed i found new
refused-cause old mid new s fixed i r now (Refused found) looks few cause = (
  cause.0,
  told_both (λ file. StandsIn file s fixed r → StandsIn file s fixed now) (λ file. StandsIn file s fixed now → (j : ℕ) → IsBeyond fixed now j → chunk_at file s (Some fixed) j ≡ Err found) (λ file. StandsIn file s fixed r → chunk_at file s (Some fixed) i ≡ Err found) old.held
      (λ file kept is stands. is (kept stands) i (looks.first, few)) looks.kept
      (told_here (λ file. StandsIn file s fixed now → (j : ℕ) → IsBeyond fixed now j → chunk_at file s (Some fixed) j ≡ Err found) mid.held old.held (sym looks.source.asks.same.held) cause.1),
)
refused-cause old mid new s fixed i r now Source looks few cause = rose_before old.faults mid.faults new.faults looks.source.asks.faults cause

pub looks-refused : (old mid new : SourceView) (s : Section) (fixed : Fixed) (i : ℕ) (r now : Reached) (found : ReadFault) → Looks old s fixed i r now mid → now.taken + 4 ≤ s.end → items fixed now ≤ i - now.first → StepsNot mid s fixed now found new
    → FindsNot old (λ file. StandsIn file s fixed r) s fixed i r.taken found now new
looks-refused old mid new s fixed i r now found looks there few lost = record {
  source = asks-on (Allows s fixed i r) r.taken now.taken s.end old mid new looks.forward (omega (arith, there)) looks.source
      (asks-allow (OfPacket s now) (Allows s fixed i r) now.taken s.end mid new (allows-packet old mid s fixed i r now looks there few) lost.source);
  kept = looks.kept;
  cause = refused-cause old mid new s fixed i r now found looks few lost.cause;
}

pub looks-moves : (old new : SourceView) (s : Section) (fixed : Fixed) (i : ℕ) (r now : Reached) → Looks old s fixed i r now new → Moves s i r now
looks-moves old new s fixed i r now looks = record { within = looks.within; forward = looks.forward; first = looks.first }

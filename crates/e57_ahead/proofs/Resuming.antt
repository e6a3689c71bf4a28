-- A search that begins where the count stands, or anew.
use Rattle.std.specs.Prelude.{◌≡◌, ℕ, ◌<◌, ◌≤◌, List, Option, Some, IfSome, Result, Ok, Err, MatchResult}
use Rattle.std.proofs.Common.{subst, arith, ⊎_elim}
use Rattle.std.proofs.lemmas.Bool.{cases_lt, lt-ltb, le-ltb}
use Rattle.e57_base.specs.Source.{SourceView}
use Rattle.e57_base.proofs.Told.{told_map, told_all}
use Rattle.e57_base.specs.declared.fault.ReadFault.{ReadFault}
use Rattle.e57_base.specs.declared.fault.ReadFault.TheVariants.{Refused, Source}
use Rattle.e57_layout.specs.declared.field.Fixed.{Fixed}
use Rattle.e57_layout.specs.declared.section.Section.{Section}
use Rattle.e57_cloud.specs.PathItem.{chunk_at}
use Rattle.e57_ahead.specs.declared.reached.Reached.{Reached}
use Rattle.e57_ahead.specs.declared.reached.Covered.{Covered}
use Rattle.e57_ahead.specs.Counting.{Search, begun, from, IsWithin, StandsIn, OnWay}
use Rattle.e57_ahead.specs.Finding.{AsksOf, HasRecords, Finds, IsFindCause, FindsNot}
use Rattle.e57_ahead.proofs.Standing.{stands-begun}
use Rattle.e57_ahead.proofs.Pages.{asks-allow}

begun-within : (s : Section) → IsWithin s (begun s)
begun-within s = record { begins = omega arith; counted = omega arith; within = λ inner. inner }

pub from-within : (s : Section) (r : Reached) (i : ℕ) → IsWithin s r → IsWithin s (from s r i)
from-within s r i within =
    ⊎_elim
    (λ (before : i < r.first). rw (lt-ltb i r.first before) (begun-within s))
    (λ (past : r.first ≤ i). rw (le-ltb i r.first past) within)
    (cases_lt i r.first)

pub from-low : (s : Section) (r : Reached) (i : ℕ) → (from s r i).first ≤ i
from-low s r i =
    ⊎_elim
    (λ (before : i < r.first). rw (lt-ltb i r.first before) (omega arith))
    (λ (past : r.first ≤ i). rw (le-ltb i r.first past) past)
    (cases_lt i r.first)

from-stands : (file : List ℕ) (s : Section) (fixed : Fixed) (r : Reached) (i : ℕ) → s.index ≡ 0 → StandsIn file s fixed r → StandsIn file s fixed (from s r i)
from-stands file s fixed r i none stands =
    ⊎_elim
    (λ (before : i < r.first). rw (lt-ltb i r.first before) (stands-begun file s fixed none))
    (λ (past : r.first ≤ i). rw (le-ltb i r.first past) stands)
    (cases_lt i r.first)

-- what holds where one fact does holds where another does that gives it
given : (P Q : List ℕ → Type 0) (R : List ℕ → Type 0) (held : Option (List ℕ)) → ((file : List ℕ) → P file → Q file) → IfSome held (λ file. Q file → R file) → IfSome held (λ file. P file → R file)
given P Q R held f known = told_map (λ file. Q file → R file) (λ file. P file → R file) held (λ file g p. g (f file p)) known

asks-given : (P Q : List ℕ → Type 0) (s : Section) (fixed : Fixed) (i low high : ℕ) (old new : SourceView) → ((file : List ℕ) → P file → Q file) → AsksOf (λ file p. Q file → OnWay file s fixed i p) low high old new → AsksOf (λ file p. P file → OnWay file s fixed i p) low high old new
asks-given P Q s fixed i low high old new f asks =
    asks-allow (λ file p. Q file → OnWay file s fixed i p) (λ file p. P file → OnWay file s fixed i p) low high old new
    (told_all (λ file. (p : ℕ) → (Q file → OnWay file s fixed i p) → P file → OnWay file s fixed i p) old.held (λ file p way stands. way (f file stands))) asks

pub finds-from : (old new : SourceView) (s : Section) (fixed : Fixed) (r next : Reached) (i low : ℕ) (covered : Covered) → s.index ≡ 0 → Finds old (λ file. StandsIn file s fixed (from s r i)) s fixed i low covered next new
    → Finds old (λ file. StandsIn file s fixed r) s fixed i low covered next new
finds-from old new s fixed r next i low covered none finds =
    let P = λ (file : List ℕ). StandsIn file s fixed r in
    let Q = λ (file : List ℕ). StandsIn file s fixed (from s r i) in
    let f = λ (file : List ℕ) (stands : StandsIn file s fixed r). from-stands file s fixed r i none stands in
    record {
      source = asks-given P Q s fixed i low next.taken old new f finds.source;
      is = finds.is;
      after = finds.after;
      before = finds.before;
      few = finds.few;
      begins = finds.begins;
      within = finds.within;
      kept = given P Q (λ file. StandsIn file s fixed next) old.held f finds.kept;
      read = given P Q (λ file. HasRecords file s fixed i covered) old.held f finds.read;
    }

cause-from : (old new : SourceView) (s : Section) (fixed : Fixed) (i : ℕ) (P Q : List ℕ → Type 0) (found : ReadFault) → ((file : List ℕ) → P file → Q file) → IsFindCause old Q s fixed i found new → IsFindCause old P s fixed i found new
cause-from old new s fixed i P Q (Refused found) f cause = (cause.0, given P Q (λ file. chunk_at file s (Some fixed) i ≡ Err found) old.held f cause.1)
cause-from old new s fixed i P Q Source f cause = cause

pub finds_not-from : (old new : SourceView) (s : Section) (fixed : Fixed) (r next : Reached) (i low : ℕ) (found : ReadFault) → s.index ≡ 0 → FindsNot old (λ file. StandsIn file s fixed (from s r i)) s fixed i low found next new
    → FindsNot old (λ file. StandsIn file s fixed r) s fixed i low found next new
finds_not-from old new s fixed r next i low found none finds =
    let P = λ (file : List ℕ). StandsIn file s fixed r in
    let Q = λ (file : List ℕ). StandsIn file s fixed (from s r i) in
    let f = λ (file : List ℕ) (stands : StandsIn file s fixed r). from-stands file s fixed r i none stands in
    record {
      source = asks-given P Q s fixed i low s.end old new f finds.source;
      kept = given P Q (λ file. StandsIn file s fixed next) old.held f finds.kept;
      cause = cause-from old new s fixed i P Q found f finds.cause;
    }

pub answer-from : (old new : SourceView) (s : Section) (fixed : Fixed) (r next : Reached) (i low : ℕ) (result : Result Covered ReadFault) → s.index ≡ 0
    → MatchResult result (λ covered. Finds old (λ file. StandsIn file s fixed (from s r i)) s fixed i low covered next new) (λ found. FindsNot old (λ file. StandsIn file s fixed (from s r i)) s fixed i low found next new)
    → MatchResult result (λ covered. Finds old (λ file. StandsIn file s fixed r) s fixed i low covered next new) (λ found. FindsNot old (λ file. StandsIn file s fixed r) s fixed i low found next new)
answer-from old new s fixed r next i low (Ok covered) none is = finds-from old new s fixed r next i low covered none is
answer-from old new s fixed r next i low (Err found) none is = finds_not-from old new s fixed r next i low found none is

-- the answer of a search by the section and the count that were kept, seen as one value
pub answer-find : (old new : SourceView) (now : Search) (s : Section) (fixed : Fixed) (r resumed next : Reached) (i : ℕ) (result : Result Covered ReadFault) → now ≡ record { section = s; fixed = fixed; reached = r } → resumed ≡ from s r i → s.index ≡ 0
    → MatchResult result (λ covered. Finds old (λ file. StandsIn file s fixed resumed) s fixed i resumed.taken covered next new) (λ found. FindsNot old (λ file. StandsIn file s fixed resumed) s fixed i resumed.taken found next new)
    → MatchResult result (λ covered. Finds old (λ file. StandsIn file now.section now.fixed now.reached) now.section now.fixed i (from now.section now.reached i).taken covered next new)
    (λ found. FindsNot old (λ file. StandsIn file now.section now.fixed now.reached) now.section now.fixed i (from now.section now.reached i).taken found next new)
answer-find old new now s fixed r resumed next i result is begins none found =
    rw is (answer-from old new s fixed r next i (from s r i).taken result none
    (subst (λ (x : Reached). MatchResult result (λ covered. Finds old (λ file. StandsIn file s fixed x) s fixed i x.taken covered next new) (λ found. FindsNot old (λ file. StandsIn file s fixed x) s fixed i x.taken found next new)) begins found))

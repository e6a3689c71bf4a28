-- What a search for the chunk of a record answers, and what it does to the source and to what is kept.
use Rattle.std.specs.Prelude.{◌≡◌, ℕ, ◌+◌, ◌-◌, ◌<◌, ◌≤◌, ◌||◌, Bool, true, false, List, Some, IfSome, Err}
use Rattle.std.specs.List.{AllByRecursion}
use Rattle.std.specs.Result.{IsOkAnd}
use Rattle.e57_base.specs.Count.{Rose}
use Rattle.e57_base.specs.Source.{SourceView}
use Rattle.e57_base.specs.declared.fault.ReadFault.{ReadFault}
use Rattle.e57_base.specs.declared.fault.ReadFault.TheVariants.{Refused, Source}
use Rattle.e57_base.specs.declared.kind.Kind.{Kind}
use Rattle.e57_base.specs.declared.kind.Kind.TheVariants.{RestartUnindexed}
use Rattle.e57_page.specs.Pages.{AsksFor}
use Rattle.e57_layout.specs.declared.section.Section.{Section}
use Rattle.e57_layout.specs.declared.field.Fixed.{Fixed}
use Rattle.e57_cloud.specs.PathItem.{ChunkAt, chunk_at}
use Rattle.e57_cloud.specs.Met.{InSpan, needed_at}
use Rattle.e57_section.specs.Steps.{is_packet_kind}
use Rattle.e57_ahead.specs.declared.reached.Reached.{Reached}
use Rattle.e57_ahead.specs.declared.reached.Covered.{Covered}
use Rattle.e57_ahead.specs.Counting.{IsWithin, StandsIn, OnWay, items, answered}

-- Pages were asked for, each of the bytes from place `low` to before place `high`, and where the file is told, each as it
-- allows.
pub record AsksOf (allows : List ℕ → ℕ → Type 0) (low high : ℕ) (old new : SourceView) : Type 0 where
  pub pages : List ℕ
  pub near : AllByRecursion (InSpan low (high - low)) pages
  pub each : IfSome old.held (λ file. AllByRecursion (allows file) pages)
  pub asks : AsksFor old pages new

abbrev pub is_restart_kind : Kind → Bool
is_restart_kind RestartUnindexed = true
is_restart_kind _ = false

-- a kind of fault that can come
abbrev pub is_found_kind : Kind → Bool
is_found_kind kind = is_packet_kind kind || is_restart_kind kind

-- ---- one packet

-- pages of the bytes that the packet at the place that was reached needs
abbrev pub OfPacket : Section → Reached → List ℕ → ℕ → Type 0
OfPacket s r file p = InSpan r.taken (needed_at file s r.taken) p

-- One packet more was taken. It began another chunk at most where the one before has items.
pub record Steps (old : SourceView) (s : Section) (fixed : Fixed) (r next : Reached) (new : SourceView) : Type 0 where
  pub source : AsksOf (OfPacket s r) r.taken next.taken old new
  pub within : IsWithin s next
  pub forward : r.taken < next.taken
  pub first : next.first ≤ r.first + items fixed r
  pub stands : IfSome old.held (λ file. StandsIn file s fixed r → StandsIn file s fixed next)

-- Record i isn't among those that were counted.
abbrev pub IsBeyond : Fixed → Reached → ℕ → Type 0
IsBeyond fixed r i = (r.first ≤ i) × (items fixed r ≤ i - r.first)

abbrev pub IsStepCause : SourceView → Section → Fixed → Reached → ReadFault → SourceView → Type 0
IsStepCause old s fixed r (Refused found) new =
    (is_found_kind found.kind ≡ true)
    × IfSome old.held (λ file. StandsIn file s fixed r → (i : ℕ) → IsBeyond fixed r i → chunk_at file s (Some fixed) i ≡ Err found)
IsStepCause old s fixed r Source new = Rose old.faults new.faults

-- It wasn't taken: it has a fault or begins another chunk without need, or the source failed.
pub record StepsNot (old : SourceView) (s : Section) (fixed : Fixed) (r : Reached) (found : ReadFault) (new : SourceView) : Type 0 where
  pub source : AsksOf (OfPacket s r) r.taken s.end old new
  pub cause : IsStepCause old s fixed r found new

-- ---- a search

-- What is kept then: packets were taken onward, and the chunk begins at most with record i.
pub record Moves (s : Section) (i : ℕ) (r next : Reached) : Type 0 where
  pub within : IsWithin s next
  pub forward : r.taken ≤ next.taken
  pub first : next.first ≤ i

-- a chunk with this first record, whose walk begins at this place
abbrev pub IsOf : Covered → ChunkAt → Type 0
IsOf covered chunk = (chunk.first ≡ covered.start) × (chunk.place ≡ covered.place)

-- the records from i up to the end of what is known have this chunk
abbrev pub HasRecords : List ℕ → Section → Fixed → ℕ → Covered → Type 0
HasRecords file s fixed i covered = (j : ℕ) → i ≤ j → j < covered.until → IsOkAnd (chunk_at file s (Some fixed) j) (IsOf covered)

-- The chunk of record i was found. `stands` says of a file that what was kept before is of it. Pages from place `low` on up to
-- the place that was reached were asked for.
pub record Finds (old : SourceView) (stands : List ℕ → Type 0) (s : Section) (fixed : Fixed) (i low : ℕ) (covered : Covered) (r : Reached) (new : SourceView) : Type 0 where
  pub source : AsksOf (λ file p. stands file → OnWay file s fixed i p) low r.taken old new
  pub is : covered ≡ answered s fixed r
  pub after : covered.start ≤ i
  pub before : i < covered.until
  pub few : covered.until ≤ s.count
  pub begins : s.data_place ≤ covered.place
  pub within : covered.place ≤ s.end
  pub kept : IfSome old.held (λ file. stands file → StandsIn file s fixed r)
  pub read : IfSome old.held (λ file. stands file → HasRecords file s fixed i covered)

-- why it wasn't found: the fault that record i has, or the source failed
abbrev pub IsFindCause : SourceView → (List ℕ → Type 0) → Section → Fixed → ℕ → ReadFault → SourceView → Type 0
IsFindCause old stands s fixed i (Refused found) new =
    (is_found_kind found.kind ≡ true) × IfSome old.held (λ file. stands file → chunk_at file s (Some fixed) i ≡ Err found)
IsFindCause old stands s fixed i Source new = Rose old.faults new.faults

pub record FindsNot (old : SourceView) (stands : List ℕ → Type 0) (s : Section) (fixed : Fixed) (i low : ℕ) (found : ReadFault) (r : Reached) (new : SourceView) : Type 0 where
  pub source : AsksOf (λ file p. stands file → OnWay file s fixed i p) low s.end old new
  pub kept : IfSome old.held (λ file. stands file → StandsIn file s fixed r)
  pub cause : IsFindCause old stands s fixed i found new

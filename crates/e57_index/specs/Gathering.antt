-- The walk over a whole index, depth first: the entries of height 0 that it gathers, and what it does to the source.
use Rattle.std.specs.Prelude.{◌≡◌, ℕ, ◌+◌, ◌<◌, ◌≤◌, true, List, ◌++◌, length, Option, Some, None, IfSome, IsSomeAnd, flat_map}
use Rattle.std.specs.List.{AllByRecursion}
use Rattle.std.specs.Option.{option_or}
use Rattle.e57_base.specs.Count.{Rose}
use Rattle.e57_base.specs.Source.{SourceView}
use Rattle.e57_base.specs.declared.fault.Fault.{Fault}
use Rattle.e57_base.specs.declared.fault.OpenFault.{OpenFault}
use Rattle.e57_base.specs.declared.fault.OpenFault.TheVariants.{Refused, Source, Memory}
use Rattle.e57_page.specs.Place.{place}
use Rattle.e57_page.specs.Pages.{AsksFor}
use Rattle.e57_layout.specs.declared.packet.Entry.{Entry}
use Rattle.e57_layout.specs.declared.section.Section.{Section}
use Rattle.e57_cloud.specs.Index.{begins_and_rises, next_first, entries_of, each_fault, entry_fault, entries_below, index_fault, entries as the_entries, Rises}
use Rattle.e57_index.specs.Asking.{InSection}
use Rattle.e57_index.specs.OnePacket.{level_of, wanted_fault}
use Rattle.e57_index.specs.Reading.{is_index_kind}

-- pages of the section alone were asked for
pub record AsksInside (s : Section) (old new : SourceView) : Type 0 where
  pub pages : List ℕ
  pub asks : AsksFor old pages new
  pub within : AllByRecursion (InSection s) pages

-- the four bytes that the entry names are there, among the section's data
abbrev pub IsAmongData : Section → Entry → Type 0
IsAmongData s e = IsSomeAnd (place e.place) (λ q. (s.data_place ≤ q) × (q + 4 ≤ s.end))

-- The entries have the records from the first one up to the bound: they begin with it, rise, and are below the bound.
pub record HaveRecords (s : Section) (first bound : ℕ) (es : List Entry) : Type 0 where
  pub begins : next_first bound es ≡ first
  pub rise : Rises first bound es
  pub among : AllByRecursion (IsAmongData s) es

-- the first fault of the packet that an entry leads to, and of what its entries lead to
abbrev pub branch_fault : List ℕ → Section → Option ℕ → Entry → ℕ → Option Fault
branch_fault file s wanted e bound = option_or (wanted_fault file s wanted e bound) (each_fault (entry_fault file s (level_of file wanted e)) bound (entries_of file e.place))

-- the entries of height 0 that it leads to
abbrev pub branch_entries : List ℕ → Option ℕ → Entry → List Entry
branch_entries file wanted e = flat_map (entries_below file (level_of file wanted e)) (entries_of file e.place)

-- What has no fault was walked over, and its entries were appended.
pub record Gathers (s : Section) (first bound : ℕ) (judge : List ℕ → Option Fault) (below : List ℕ → List Entry) (old : SourceView) (had : List Entry) (new : SourceView) (have : List Entry) : Type 0 where
  pub source : AsksInside s old new
  pub added : List Entry
  pub has : have ≡ had ++ added
  pub records : HaveRecords s first bound added
  pub sound : IfSome old.held (λ file. judge file ≡ None)
  pub is : IfSome old.held (λ file. added ≡ below file)

-- why it wasn't: its first fault, the source failed, or memory ran out
abbrev pub IsGatherCause : SourceView → (List ℕ → Option Fault) → OpenFault → SourceView → Type 0
IsGatherCause old judge (Refused found) new = (is_index_kind found.kind ≡ true) × IfSome old.held (λ file. judge file ≡ Some found)
IsGatherCause old judge Source new = Rose old.faults new.faults
IsGatherCause old judge Memory new = Unit {0}

pub record GathersNot (s : Section) (judge : List ℕ → Option Fault) (old : SourceView) (found : OpenFault) (new : SourceView) : Type 0 where
  pub source : AsksInside s old new
  pub cause : IsGatherCause old judge found new

-- ---- the whole index

-- The index has no fault, and these are its entries of height 0. There is one, the first of record 0, the records rise below
-- the count, and what each entry names is there, among the section's data.
pub record GathersIndex (old : SourceView) (s : Section) (es : List Entry) (new : SourceView) : Type 0 where
  pub source : AsksInside s old new
  pub some : 0 < length es
  pub ordered : begins_and_rises 0 s.count es ≡ true
  pub among : AllByRecursion (IsAmongData s) es
  pub sound : IfSome old.held (λ file. index_fault file s ≡ None)
  pub is : IfSome old.held (λ file. es ≡ the_entries file s)

-- its first fault, the source failed, or memory ran out
abbrev pub GathersNoIndex : SourceView → Section → OpenFault → SourceView → Type 0
GathersNoIndex old s found new = GathersNot s (λ file. index_fault file s) old found new

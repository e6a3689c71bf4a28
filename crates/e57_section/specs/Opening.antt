-- What `open_section` answers, and what it does to the source.
use Rattle.std.specs.Prelude.{◌≡◌, ℕ, ◌+◌, ◌^◌, ◌<◌, ◌≤◌, Bool, true, false, nat_lt, if◌then◌else◌, List, [], Option, Some, None, IfSome, MatchOption}
use Rattle.e57_base.specs.Count.{Rose}
use Rattle.e57_base.specs.Source.{SourceView}
use Rattle.e57_base.specs.declared.fault.ReadFault.{ReadFault}
use Rattle.e57_base.specs.declared.fault.ReadFault.TheVariants.{Refused, Source}
use Rattle.e57_base.specs.declared.kind.Kind.{Kind}
use Rattle.e57_base.specs.declared.kind.Kind.TheVariants.{Page, SectionPlace, SectionId, DataPlace}
use Rattle.e57_page.specs.Place.{place}
use Rattle.e57_page.specs.Pages.{AsksFor}
use Rattle.e57_layout.specs.declared.section.Section.{Section}
use Rattle.e57_cloud.specs.Section.{section_fault, section_at}
use Rattle.e57_section.specs.Asking.{AsksSpan, KeepsSpan, KeepsOnly}

-- the most records of a cloud, and the most fields of a record
abbrev pub most_records : ℕ
most_records = 2 ^ 40

abbrev pub most_fields : ℕ
most_fields = 512

-- The section lies in a file of so many logical bytes: its header, the place of its data, its end. It has fields and
-- records, and not more of either than the limits.
pub record LiesIn (s : Section) (size : ℕ) : Type 0 where
  pub header : s.start + 32 ≤ s.data_place
  pub data_within : s.data_place ≤ s.end
  pub within : s.end ≤ size
  pub some_fields : 0 < s.fields
  pub few_fields : s.fields ≤ most_fields
  pub some_records : 0 < s.count
  pub few_records : s.count ≤ most_records

abbrev pub header_within : ℕ → Option ℕ → Option ℕ
header_within size None = None
header_within size (Some q) = if nat_lt size (q + 32) then None else Some q

-- The place of the header at the offset that a cloud states; none where its 32 bytes aren't in the file.
abbrev pub header_place : ℕ → ℕ → Option ℕ
header_place size offset = header_within size (place offset)

-- pages of the header alone were asked for, and none where it isn't in the file
abbrev pub AsksHeader : List ℕ → ℕ → ℕ → SourceView → SourceView → Type 0
AsksHeader kept size offset old new = MatchOption (header_place size offset) (AsksFor old [] new) (λ q. AsksSpan kept q 32 old new)

abbrev pub KeepsHeader : List ℕ → ℕ → ℕ → List ℕ → Type 0
KeepsHeader kept size offset now = MatchOption (header_place size offset) (now ≡ kept) (λ q. KeepsOnly kept q 32 now)

-- a kind of fault that a section's header can have
abbrev pub is_section_kind : Kind → Bool
is_section_kind SectionPlace = true
is_section_kind Page = true
is_section_kind SectionId = true
is_section_kind DataPlace = true
is_section_kind _ = false

-- The section of this node, with so many records and fields, at this offset in a file of so many logical bytes.
pub record OpensSection (old : SourceView) (kept : List ℕ) (size node offset count fields : ℕ) (s : Section) (new : SourceView) (now : List ℕ) : Type 0 where
  pub source : AsksSpan kept s.start 32 old new
  pub keeps : KeepsSpan kept s.start 32 now
  pub place : place offset ≡ Some s.start
  pub lies : LiesIn s size
  pub of_node : s.node ≡ node
  pub has_fields : s.fields ≡ fields
  pub has_records : s.count ≡ count
  pub sound : IfSome old.held (λ file. section_fault file node offset ≡ None)
  pub read : IfSome old.held (λ file. s ≡ section_at file node offset count fields)

-- why a section wasn't opened: its first fault, or the source failed
abbrev pub IsSectionCause : SourceView → ℕ → ℕ → ReadFault → SourceView → Type 0
IsSectionCause old node offset (Refused found) new = (is_section_kind found.kind ≡ true) × IfSome old.held (λ file. section_fault file node offset ≡ Some found)
IsSectionCause old node offset Source new = Rose old.faults new.faults

pub record OpensNoSection (old : SourceView) (kept : List ℕ) (size node offset : ℕ) (found : ReadFault) (new : SourceView) (now : List ℕ) : Type 0 where
  pub source : AsksHeader kept size offset old new
  pub keeps : KeepsHeader kept size offset now
  pub cause : IsSectionCause old node offset found new

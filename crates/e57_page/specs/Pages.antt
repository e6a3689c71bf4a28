-- An open file as contracts see it, and what the calls that read its pages answer and do to the source.
use Rattle.std.specs.Prelude.{◌≡◌, ℕ, ◌+◌, ◌-◌, ◌*◌, ◌/◌, ◌<◌, ◌≤◌, Bool, true, false, List, [], ◌∷◌, ◌++◌, length, take, drop, Some, None, IfSome, MatchOption}
use Rattle.std.specs.List.{range_with_len}
use Rattle.e57_base.specs.Count.{Rose}
use Rattle.e57_base.specs.Source.{SourceView, SameFile, Asks}
use Rattle.e57_base.specs.declared.fault.Fault.{Fault}
use Rattle.e57_base.specs.declared.fault.ReadFault.{ReadFault}
use Rattle.e57_base.specs.declared.fault.ReadFault.TheVariants.{Refused, Source}
use Rattle.e57_base.specs.declared.kind.Kind.{Kind}
use Rattle.e57_base.specs.declared.kind.Kind.TheVariants.{FileLength, Signature, Version, PageSize, Page}
use Rattle.e57_page.specs.declared.header.Header.{Header}
use Rattle.e57_page.specs.declared.pages.Cut.{Cut}
use Rattle.e57_page.specs.Place.{payload_length, RisesWithin, span_end}
use Rattle.e57_page.specs.Kept.{AreUnkept, KeepsTo}
use Rattle.e57_base.specs.Fault.{fault}
use Rattle.e57_page.specs.Header.{header_of}
use Rattle.e57_page.specs.File.{logical, length_fault, page_fault, pages_fault, span_fault, opening_fault}

-- the source, the file's length in bytes, and the numbers of its header
pub record Reading (S : Type 0) : Type 0 where
  pub source : S
  pub length : ℕ
  pub header : Header
  -- the numbers of the pages that are kept, by their places
  pub kept : List ℕ

-- What a call that reads pages does to its source: it asks for these pages, and may fail.
pub record AsksFor (old : SourceView) (pages : List ℕ) (new : SourceView) : Type 0 where
  pub same : SameFile old new
  pub asked : Asks old.asked pages new.asked
  pub faults : old.faults ≤ new.faults

-- Pages from `low` on and below `high` were asked for, in ascending order, each at most once, and no other.
abbrev pub AsksWithin : ℕ → ℕ → SourceView → SourceView → Type 0
AsksWithin low high old new = (pages : List ℕ) × RisesWithin low high pages × AsksFor old pages new

-- The same, and none of them was kept.
abbrev pub AsksUnkept : List ℕ → ℕ → ℕ → SourceView → SourceView → Type 0
AsksUnkept kept low high old new = (pages : List ℕ) × RisesWithin low high pages × AreUnkept kept pages × AsksFor old pages new

-- The same, and page n is the last of them.
abbrev pub AsksUpTo : List ℕ → ℕ → ℕ → SourceView → SourceView → Type 0
AsksUpTo kept low n old new = (pages : List ℕ) × RisesWithin low (n + 1) (pages ++ n ∷ []) × AreUnkept kept (pages ++ n ∷ []) × AsksFor old (pages ++ n ∷ []) new

-- a kind of fault that page 0 can have
abbrev pub is_opening_kind : Kind → Bool
is_opening_kind Signature = true
is_opening_kind Version = true
is_opening_kind FileLength = true
is_opening_kind PageSize = true
is_opening_kind Page = true
is_opening_kind _ = false

-- The file was opened: its length, its header and its page 0 have no fault.
pub record IsOpened (old : SourceView) (size : ℕ) (told : ℕ) (header : Header) (new : SourceView) : Type 0 where
  pub source : AsksFor old (0 ∷ []) new
  pub length : told ≡ size
  pub sound : length_fault size ≡ None
  pub agrees : header.length ≡ size
  pub first : IfSome old.held (λ file. opening_fault file ≡ None)
  pub read : IfSome old.held (λ file. header ≡ header_of file)

-- page 0 was read, and it or its header has this fault
pub record IsRefusedByPage (old : SourceView) (found : Fault) (new : SourceView) : Type 0 where
  pub source : AsksFor old (0 ∷ []) new
  pub kind : is_opening_kind found.kind ≡ true
  pub first : IfSome old.held (λ file. opening_fault file ≡ Some found)

-- The file was not opened: by its length before anything was asked for, else by page 0, or since the source failed.
abbrev pub IsNotOpened : SourceView → ℕ → ReadFault → SourceView → Type 0
IsNotOpened old size (Refused found) new = MatchOption (length_fault size) (IsRefusedByPage old found new) (λ wrong. (found ≡ wrong) × AsksFor old [] new)
IsNotOpened old size Source new = (length_fault size ≡ None) × Rose old.faults new.faults × AsksFor old (0 ∷ []) new

-- The range of logical bytes from place `at` on was read: all its pages are right. Pages of the range alone were asked
-- for, and none that was kept. The last 144 of them are kept.
pub record ReadsRange (old : SourceView) (kept : List ℕ) (at count : ℕ) (out : List ℕ) (new : SourceView) (now : List ℕ) : Type 0 where
  pub source : AsksUnkept kept (at / payload_length) (span_end at count) old new
  pub keeps : KeepsTo kept (at / payload_length) (span_end at count) (span_end at count) now
  pub right : IfSome old.held (λ file. span_fault file at count ≡ None)
  pub bytes : IfSome old.held (λ file. out ≡ take count (drop at (logical file)))

-- why page n stopped a read
abbrev pub IsStopped : SourceView → ℕ → ReadFault → SourceView → Type 0
IsStopped old n (Refused found) new = (found ≡ fault Page n 0) × IfSome old.held (λ file. page_fault file n ≡ Some found)
IsStopped old n Source new = Rose old.faults new.faults

-- The read of a range stopped at page n, the last one that it asked for: the bytes before that page were read.
pub record IsCutAt (old : SourceView) (kept : List ℕ) (at : ℕ) (before : List ℕ) (cut : Cut) (after : List ℕ) (n : ℕ) (new : SourceView) (now : List ℕ) : Type 0 where
  pub source : AsksUpTo kept (at / payload_length) n old new
  pub keeps : KeepsTo kept (at / payload_length) n (span_end at (length before)) now
  pub short : cut.done < length before
  pub done : cut.done ≡ payload_length * n - at
  pub place : n ≡ (at + cut.done) / payload_length
  pub right : IfSome old.held (λ file. pages_fault file (at / payload_length) (n - at / payload_length) ≡ None)
  pub bytes : IfSome old.held (λ file. take cut.done after ≡ take cut.done (drop at (logical file)))
  pub rest : drop cut.done after ≡ drop cut.done before
  pub cause : IsStopped old n cut.fault new

-- All pages were read, each once and in order, and none has a fault.
pub record IsScanned (old : SourceView) (count : ℕ) (new : SourceView) : Type 0 where
  pub source : AsksFor old (range_with_len 0 count) new
  pub right : IfSome old.held (λ file. pages_fault file 0 count ≡ None)

-- The scan stopped at page n: the pages before it are right.
pub record IsScannedTo (old : SourceView) (count : ℕ) (found : ReadFault) (n : ℕ) (new : SourceView) : Type 0 where
  pub source : AsksFor old (range_with_len 0 (n + 1)) new
  pub within : n < count
  pub right : IfSome old.held (λ file. pages_fault file 0 n ≡ None)
  pub cause : IsStopped old n found new

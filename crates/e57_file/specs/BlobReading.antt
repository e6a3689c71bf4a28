-- What the calls that read a blob answer, and what they do to the source.
use Rattle.std.specs.Prelude.{◌≡◌, ℕ, ◌+◌, ◌*◌, ◌/◌, ◌⊎◌, Bool, true, false, List, take, drop, Some, None, IfSome, MatchOption, Result, IfErr, Err}
use Rattle.e57_base.specs.Count.{Rose}
use Rattle.e57_base.specs.Fault.{fault}
use Rattle.e57_base.specs.Source.{SourceView, page_length}
use Rattle.e57_base.specs.declared.fault.ReadFault.{ReadFault}
use Rattle.e57_base.specs.declared.fault.ReadFault.TheVariants.{Refused, Source}
use Rattle.e57_base.specs.declared.kind.Kind.{Kind}
use Rattle.e57_base.specs.declared.kind.Kind.TheVariants.{Page, BlobPlace, BlobId}
use Rattle.e57_page.specs.declared.pages.Cut.{Cut}
use Rattle.e57_page.specs.Place.{payload_length, span_end}
use Rattle.e57_page.specs.Kept.{is_kept, KeepsTo}
use Rattle.e57_page.specs.Pages.{Reading, AsksUnkept, ReadsRange, IsCutAt}
use Rattle.e57_cloud.specs.Met.{InSpan}
use Rattle.e57_tree.specs.declared.items.Blob.{Blob}
use Rattle.e57_file.specs.Blob.{head_length, blob_head, blob_start, stated_blob_fault, head_place, LiesIn, stated_blob_bytes}

-- Of the pages of the header those that weren't kept were asked for, or the first of these, in ascending order, each once,
-- and no other.
abbrev pub AsksHead : List ℕ → Blob → SourceView → SourceView → Type 0
AsksHead kept blob old new = AsksUnkept kept (blob_head blob / payload_length) (span_end (blob_head blob) head_length) old new

-- The blob's section has no fault, and this is the place of the blob's first byte.
pub record OpensBlob (old : SourceView) (kept : List ℕ) (size : ℕ) (blob : Blob) (start : ℕ) (new : SourceView) (now : List ℕ) : Type 0 where
  pub source : AsksHead kept blob old new
  pub keeps : KeepsTo kept (blob_head blob / payload_length) (span_end (blob_head blob) head_length) (span_end (blob_head blob) head_length) now
  pub begins : start ≡ blob_start blob
  pub lies : LiesIn size blob
  pub sound : IfSome old.held (λ file. stated_blob_fault file blob ≡ None)

-- a kind of fault that a blob's section can have
abbrev pub is_blob_kind : Kind → Bool
is_blob_kind BlobPlace = true
is_blob_kind Page = true
is_blob_kind BlobId = true
is_blob_kind _ = false

-- why a blob wasn't opened: the first fault of its section, or the source failed
abbrev pub IsBlobCause : SourceView → Blob → ReadFault → SourceView → Type 0
IsBlobCause old blob (Refused found) new = (is_blob_kind found.kind ≡ true) × IfSome old.held (λ file. stated_blob_fault file blob ≡ Some found)
IsBlobCause old blob Source new = Rose old.faults new.faults

pub record OpensNoBlob (old : SourceView) (kept : List ℕ) (blob : Blob) (found : ReadFault) (new : SourceView) (now : List ℕ) : Type 0 where
  pub source : AsksHead kept blob old new
  pub keeps : (k : ℕ) → is_kept now k ≡ true → (is_kept kept k ≡ true) ⊎ InSpan (blob_head blob) head_length k
  pub cause : IsBlobCause old blob found new

-- a kind of fault of the header's bytes
abbrev pub is_head_kind : Kind → Bool
is_head_kind Page = true
is_head_kind BlobId = true
is_head_kind _ = false

-- no fault of the blob's place
abbrev pub IsPastBlobPlace : ReadFault → Type 0
IsPastBlobPlace (Refused found) = is_head_kind found.kind ≡ true
IsPastBlobPlace Source = Unit {0}

-- Where the offset has no place or the section passes the file, this is the answer, nothing was asked for, and the open
-- file is as before. Else this is no answer.
abbrev pub JudgesBlobPlace : {S T : Type 0} → Reading S → Blob → Result T ReadFault → Reading S → Type 0
JudgesBlobPlace old blob result new =
    MatchOption (head_place (old.length / page_length * payload_length) blob)
    ((result ≡ Err (Refused (fault BlobPlace blob.node blob.place))) × (new ≡ old))
    (λ _. IfErr result IsPastBlobPlace)

-- The blob's bytes from the one with number `at` on were read, as many as `out` has.
pub record ReadsBlob (old : SourceView) (kept : List ℕ) (blob : Blob) (at count : ℕ) (out : List ℕ) (new : SourceView) (now : List ℕ) : Type 0 where
  pub range : ReadsRange old kept (blob_start blob + at) count out new now
  pub bytes : IfSome old.held (λ file. out ≡ take count (drop at (stated_blob_bytes file blob)))

-- The read of these bytes stopped at a page that failed or is wrong. Those before it were read.
abbrev pub CutsBlob : SourceView → List ℕ → Blob → ℕ → List ℕ → Cut → List ℕ → SourceView → List ℕ → Type 0
CutsBlob old kept blob at before cut after new now = (n : ℕ) × IsCutAt old kept (blob_start blob + at) before cut after n new now

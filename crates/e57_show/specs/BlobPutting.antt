-- How the bytes of a blob are put, piece by piece.
use Rattle.std.specs.Prelude.{◌≡◌, ℕ, ◌+◌, ◌-◌, ◌*◌, ◌≤◌, true, List, take, drop, Some, None, IfSome}
use Rattle.e57_base.specs.Count.{Rose}
use Rattle.e57_base.specs.Source.{SourceView}
use Rattle.e57_base.specs.Sink.{SinkView, Grows, GrowsByFront}
use Rattle.e57_base.specs.declared.fault.ReadFault.{ReadFault}
use Rattle.e57_base.specs.declared.fault.ReadFault.TheVariants as read
use Rattle.e57_base.specs.declared.fault.RunFault.{RunFault}
use Rattle.e57_base.specs.declared.fault.RunFault.TheVariants.{Refused, Source, Out, Memory, Ask}
use Rattle.e57_page.specs.Place.{payload_length, span_end}
use Rattle.e57_page.specs.Kept.{is_kept}
use Rattle.e57_page.specs.File.{span_fault}
use Rattle.e57_page.specs.Pages.{AsksWithin}
use Rattle.e57_tree.specs.declared.items.Blob.{Blob}
use Rattle.e57_file.specs.Blob.{head_length, blob_head, blob_start, stated_blob_bytes}
use Rattle.e57_show.specs.Blob.{is_page_kind, right_bytes}

-- The last page of the n logical bytes from place q on is kept.
abbrev pub KeepsLast : ℕ → ℕ → List ℕ → Type 0
KeepsLast q n kept = (k : ℕ) → k + 1 ≡ span_end q n → is_kept kept k ≡ true

-- Pages of the blob's bytes from number `from` on and below `until` were asked for, but for that of the byte before them.
abbrev pub AsksBetween : Blob → ℕ → ℕ → SourceView → SourceView → Type 0
AsksBetween blob from until old new = AsksWithin (span_end (blob_head blob) (head_length + from)) (span_end (blob_head blob) (head_length + until)) old new

-- So many of the blob's bytes from number `from` on were read: their pages are right.
pub record IsPart (blob : Blob) (from count : ℕ) (old : SourceView) (text : List ℕ) : Type 0 where
  pub right : IfSome old.held (λ file. span_fault file (blob_start blob + from) count ≡ None)
  pub read : IfSome old.held (λ file. text ≡ take count (drop from (stated_blob_bytes file blob)))

-- They were read and put.
pub record PutsPart (blob : Blob) (from count : ℕ) (old new : SourceView) (now : List ℕ) (out out' : SinkView) : Type 0 where
  pub source : AsksBetween blob from (from + count) old new
  pub keeps : KeepsLast (blob_head blob) (head_length + (from + count)) now
  pub text : List ℕ
  pub part : IsPart blob from count old text
  pub wrote : Grows out.written text out'.written
  pub counts : out.faults ≤ out'.faults

-- The blob's first bytes, so many, were read and put.
pub record PutsFirst (blob : Blob) (count : ℕ) (old new : SourceView) (now : List ℕ) (out out' : SinkView) : Type 0 where
  pub source : AsksBetween blob 0 count old new
  pub keeps : KeepsLast (blob_head blob) (head_length + count) now
  pub right : IfSome old.held (λ file. span_fault file (blob_start blob) count ≡ None)
  pub text : List ℕ
  pub read : IfSome old.held (λ file. text ≡ take count (stated_blob_bytes file blob))
  pub wrote : Grows out.written text out'.written
  pub counts : out.faults ≤ out'.faults

-- what is put of a text when a read was cut, and how the command ends then
abbrev pub PutsCut : List ℕ → ReadFault → SinkView → RunFault → SinkView → Type 0
PutsCut text (read.Refused found) out (Refused given) out' = (given ≡ found) × Grows out.written text out'.written
PutsCut text (read.Refused found) out Out out' = Rose out.faults out'.faults × GrowsByFront out.written text out'.written
PutsCut text read.Source out Source out' = out' ≡ out
PutsCut text _ out _ out' = ⊥

-- why a piece wasn't put as a whole: the fault of a page, up to which it was put; or the source or the sink failed
abbrev pub IsPartCause : Blob → ℕ → ℕ → SourceView → SourceView → SinkView → SinkView → ℕ → List ℕ → RunFault → Type 0
IsPartCause blob from count old new out out' read text (Refused found) =
    (is_page_kind found.kind ≡ true) × Grows out.written text out'.written
    × IfSome old.held (λ file. (span_fault file (blob_start blob + from) count ≡ Some found) × (read ≡ payload_length * found.a - (blob_start blob + from)))
IsPartCause blob from count old new out out' read text Source = Rose old.faults new.faults
IsPartCause blob from count old new out out' read text Out = Rose out.faults out'.faults
IsPartCause blob from count old new out out' read text Memory = ⊥
IsPartCause blob from count old new out out' read text (Ask why) = ⊥

-- Of these bytes so many were read, and some of those put.
pub record FailsPart (blob : Blob) (from count : ℕ) (old new : SourceView) (out out' : SinkView) (fault : RunFault) : Type 0 where
  pub source : AsksBetween blob from (from + count) old new
  pub done : ℕ
  pub within : done ≤ count
  pub text : List ℕ
  pub part : IsPart blob from done old text
  pub wrote : GrowsByFront out.written text out'.written
  pub cause : IsPartCause blob from count old new out out' done text fault

-- the blob's bytes were put up to the first page with a wrong word, or some of them
abbrev pub PutsRight : Blob → SourceView → SinkView → SinkView → Type 0
PutsRight blob old out out' = (text : List ℕ) × IfSome old.held (λ file. text ≡ right_bytes file blob) × Grows out.written text out'.written

abbrev pub PutsRightFront : Blob → SourceView → SinkView → SinkView → Type 0
PutsRightFront blob old out out' = (text : List ℕ) × IfSome old.held (λ file. text ≡ right_bytes file blob) × GrowsByFront out.written text out'.written

-- why the bytes of a blob weren't put as a whole
abbrev pub IsBytesCause : Blob → SourceView → SourceView → SinkView → SinkView → RunFault → Type 0
IsBytesCause blob old new out out' (Refused found) =
    (is_page_kind found.kind ≡ true) × IfSome old.held (λ file. span_fault file (blob_start blob) blob.length ≡ Some found) × PutsRight blob old out out'
IsBytesCause blob old new out out' Source = Rose old.faults new.faults × PutsRightFront blob old out out'
IsBytesCause blob old new out out' Out = Rose out.faults out'.faults × PutsRightFront blob old out out'
IsBytesCause blob old new out out' Memory = ⊥
IsBytesCause blob old new out out' (Ask why) = ⊥

-- all bytes of the blob were put: their pages are right
pub record PutsBytes (blob : Blob) (old new : SourceView) (out out' : SinkView) : Type 0 where
  pub source : AsksBetween blob 0 blob.length old new
  pub right : IfSome old.held (λ file. span_fault file (blob_start blob) blob.length ≡ None)
  pub wrote : PutsRight blob old out out'

pub record FailsBytes (blob : Blob) (old new : SourceView) (out out' : SinkView) (fault : RunFault) : Type 0 where
  pub source : AsksBetween blob 0 blob.length old new
  pub cause : IsBytesCause blob old new out out' fault

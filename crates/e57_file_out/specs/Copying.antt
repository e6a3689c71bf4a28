-- How a blob of a file is copied into a new one (ASTM E2807, blob section).
use Rattle.std.specs.Prelude.{◌≡◌, ℕ, ◌+◌, ◌*◌, ◌/◌, ◌<◌, true, false, List, ◌++◌, length, take, drop, slice_get, None, Some, IfSome}
use Rattle.std.specs.Option.{option_map}
use Rattle.e57_base.specs.Count.{Rose}
use Rattle.e57_base.specs.Source.{SourceView}
use Rattle.e57_base.specs.Target.{TargetView}
use Rattle.e57_base.specs.declared.fault.ReadFault.TheVariants.{Refused, Source}
use Rattle.e57_base.specs.declared.kind.Kind.TheVariants.{Page}
use Rattle.e57_elements.specs.Lawful.{AreNodes}
use Rattle.e57_elements.specs.Tree.{Element, preorder}
use Rattle.e57_elements.specs.declared.tree.RawNode.{RawNode}
use Rattle.e57_layout.specs.Headers.{blob_head}
use Rattle.e57_layout.specs.Packets.{whole_words}
use Rattle.e57_layout.specs.Written.{physical, blob_spelled}
use Rattle.e57_page.specs.File.{span_fault}
use Rattle.e57_page.specs.Kept.{is_kept}
use Rattle.e57_page.specs.Pages.{AsksWithin}
use Rattle.e57_page.specs.Place.{payload_length, span_end}
use Rattle.e57_page_out.specs.Sealed.{filled, pages_for}
use Rattle.e57_page_out.specs.Sequences.{Puts, Loses}
use Rattle.e57_page_out.specs.Writing.{Writing, Writes, IsBeingWritten, KeepsTarget, most_bytes}
use Rattle.e57_tree.specs.Held.{blobs_of}
use Rattle.e57_tree.specs.declared.items.Blob.{Blob}
use Rattle.e57_file.specs.Blob.{blob_start, stated_blob_bytes}
use Rattle.e57_file_out.specs.declared.copy.CopyFault.{CopyFault}
use Rattle.e57_file_out.specs.declared.copy.CopyFault.TheVariants.{Read, Put}

-- ---- what is read

-- These are the blob's first bytes, so many, and their pages are right. Pages of these bytes alone were asked for, in
-- ascending order, each at most once.
pub record ReadsFirst (blob : Blob) (count : ℕ) (old new : SourceView) (bytes : List ℕ) : Type 0 where
  pub source : AsksWithin (blob_start blob / payload_length) (span_end (blob_start blob) count) old new
  pub long : length bytes ≡ count
  pub right : IfSome old.held (λ file. span_fault file (blob_start blob) count ≡ None)
  pub read : IfSome old.held (λ file. bytes ≡ take count (stated_blob_bytes file blob))

-- ---- what is put

-- how many logical bytes a file of this size has with the section of this blob, from a fresh page on
abbrev pub size_with : ℕ → Blob → ℕ
size_with size blob = payload_length * pages_for size + (16 + blob.length)

-- The section was put from a fresh page on, and this is its offset.
pub record CopiesBlob {T : Type 0} (view : T → TargetView) (blob : Blob) (old new : SourceView) (out : Writing T) (offset : ℕ) (out' : Writing T) : Type 0 where
  pub begins : offset ≡ physical (payload_length * pages_for out.size)
  pub bytes : List ℕ
  pub reads : ReadsFirst blob blob.length old new bytes
  pub wrote : Writes view out (option_map (λ b. filled (pages_for out.size) b ++ blob_spelled bytes) out.told_bytes) (size_with out.size blob) out.held out'

-- the file is still written: some of the section may have been put
pub record StillWrites {T : Type 0} (view : T → TargetView) (out out' : Writing T) : Type 0 where
  pub state : IsBeingWritten view out'
  pub held : out'.held ≡ out.held
  pub target : KeepsTarget (view out.target) (view out'.target)

-- a file can be written on after a read that failed, and not after bytes that were not put
abbrev pub LeavesWriter : {T : Type 0} → (T → TargetView) → Writing T → CopyFault → Writing T → Type 0
LeavesWriter view out (Read why) out' = StillWrites view out out'
LeavesWriter view out (Put why) out' = out'.is_spent ≡ true

-- why it was not copied: the first fault of the blob's pages, the source failed, or not all could be put, by which the file would
-- have so many logical bytes
abbrev pub IsCopyCause : {T : Type 0} → (T → TargetView) → Blob → ℕ → SourceView → SourceView → Writing T → CopyFault → Writing T → Type 0
IsCopyCause view blob size old new out (Read (Refused found)) out' =
    (found.kind ≡ Page) × IfSome old.held (λ file. span_fault file (blob_start blob) blob.length ≡ Some found) × StillWrites view out out'
IsCopyCause view blob size old new out (Read Source) out' = Rose old.faults new.faults × StillWrites view out out'
IsCopyCause view blob size old new out (Put fault) out' = (out'.is_spent ≡ true) × Loses view out (most_bytes < size) fault (view out'.target)

pub record LosesBlob {T : Type 0} (view : T → TargetView) (blob : Blob) (size : ℕ) (old new : SourceView) (out : Writing T) (fault : CopyFault) (out' : Writing T) : Type 0 where
  pub source : AsksWithin (blob_start blob / payload_length) (span_end (blob_start blob) blob.length) old new
  pub cause : IsCopyCause view blob size old new out fault out'

-- ---- piece by piece

-- The header of the section was put, from a fresh page on.
pub record BeginsSection {T : Type 0} (view : T → TargetView) (blob : Blob) (out : Writing T) (offset : ℕ) (out' : Writing T) : Type 0 where
  pub begins : offset ≡ physical (payload_length * pages_for out.size)
  pub wrote : Writes view out (option_map (λ b. filled (pages_for out.size) b ++ blob_head (16 + whole_words blob.length)) out.told_bytes) (payload_length * pages_for out.size + 16) out.held out'

-- The last page of the blob's first bytes, so many, is kept.
abbrev pub KeepsLast : Blob → ℕ → List ℕ → Type 0
KeepsLast blob count kept = 0 < count → (k : ℕ) → k + 1 ≡ span_end (blob_start blob) count → is_kept kept k ≡ true

-- The blob's first bytes, so many, were read and put.
pub record CopiesFirst {T : Type 0} (view : T → TargetView) (blob : Blob) (count : ℕ) (old new : SourceView) (now : List ℕ) (out out' : Writing T) : Type 0 where
  pub bytes : List ℕ
  pub reads : ReadsFirst blob count old new bytes
  pub keeps : KeepsLast blob count now
  pub wrote : Puts view out bytes out'

-- the tree with these nodes has blob k, and it is this one
pub record IsBlobOf (nodes : List RawNode) (k : ℕ) (blob : Blob) : Type 0 where
  pub are_nodes : AreNodes nodes
  pub there : (e : Element) → nodes ≡ preorder e → slice_get (blobs_of e) k ≡ Some blob

-- So many of the blob's bytes from number `from` on were read and put.
pub record CopiesPart {T : Type 0} (view : T → TargetView) (blob : Blob) (from count : ℕ) (old new : SourceView) (now : List ℕ) (out out' : Writing T) : Type 0 where
  pub source : AsksWithin (span_end (blob_start blob) from) (span_end (blob_start blob) (from + count)) old new
  pub keeps : KeepsLast blob (from + count) now
  pub bytes : List ℕ
  pub long : length bytes ≡ count
  pub right : IfSome old.held (λ file. span_fault file (blob_start blob + from) count ≡ None)
  pub read : IfSome old.held (λ file. bytes ≡ take count (drop from (stated_blob_bytes file blob)))
  pub wrote : Puts view out bytes out'

-- why they were not
abbrev pub IsPartCause : {T : Type 0} → (T → TargetView) → Blob → ℕ → ℕ → SourceView → SourceView → Writing T → CopyFault → Writing T → Type 0
IsPartCause view blob from count old new out (Read (Refused found)) out' =
    (found.kind ≡ Page) × IfSome old.held (λ file. span_fault file (blob_start blob + from) count ≡ Some found) × (out' ≡ out)
IsPartCause view blob from count old new out (Read Source) out' = Rose old.faults new.faults × (out' ≡ out)
IsPartCause view blob from count old new out (Put fault) out' = (out'.is_spent ≡ true) × Loses view out (most_bytes < out.size + count) fault (view out'.target)

pub record LosesPart {T : Type 0} (view : T → TargetView) (blob : Blob) (from count : ℕ) (old new : SourceView) (out : Writing T) (fault : CopyFault) (out' : Writing T) : Type 0 where
  pub source : AsksWithin (span_end (blob_start blob) from) (span_end (blob_start blob) (from + count)) old new
  pub cause : IsPartCause view blob from count old new out fault out'

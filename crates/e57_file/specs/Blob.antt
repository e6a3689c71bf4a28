-- A blob of a file (ASTM E2807, blob section): where its section lies, the first fault of its header, and its bytes.
-- A place is a logical offset; the offset that a blob states is physical.
use Rattle.std.specs.Prelude.{◌≡◌, ℕ, ◌+◌, ◌<◌, ◌==◌, not, nat_lt, if◌then◌else◌, List, length, take, drop, slice_get, Option, Some, None}
use Rattle.std.specs.Option.{option_or}
use Rattle.e57_base.specs.Fault.{fault}
use Rattle.e57_base.specs.declared.fault.Fault.{Fault}
use Rattle.e57_base.specs.declared.kind.Kind.TheVariants.{BlobPlace, BlobId}
use Rattle.e57_page.specs.Place.{place}
use Rattle.e57_page.specs.File.{logical, logical_size, span_fault}
use Rattle.e57_layout.specs.Headers.{blob_head_at}
use Rattle.e57_cloud.specs.Section.{when, or_zero}
use Rattle.e57_elements.specs.declared.tree.RawNode.{RawNode}
use Rattle.e57_elements.specs.Tree.{Element, preorder}
use Rattle.e57_tree.specs.declared.items.Blob.{Blob}
use Rattle.e57_tree.specs.Held.{blobs_of}

-- the bytes of the header of a blob's section
abbrev pub head_length : ℕ
head_length = 16

-- the place of the header, and that of the first of the blob's bytes, which follow it
abbrev pub blob_head : Blob → ℕ
blob_head blob = or_zero (place blob.place)

abbrev pub blob_start : Blob → ℕ
blob_start blob = blob_head blob + head_length

-- the first fault of a blob's section whose header is at this place: header and bytes pass the file, a page of the header
-- is wrong, the id isn't 0
abbrev pub stated_blob_fault_from : List ℕ → Blob → Option ℕ → Option Fault
stated_blob_fault_from file blob None = Some (fault BlobPlace blob.node blob.place)
stated_blob_fault_from file blob (Some q) =
    option_or (when (nat_lt (logical_size file) (q + (head_length + blob.length))) (fault BlobPlace blob.node blob.place))
    (option_or (span_fault file q head_length)
    (when (not ((blob_head_at (logical file) q).id == 0)) (fault BlobId blob.node (blob_head_at (logical file) q).id)))

-- The first fault of a blob's section: the offset has no place, or the faults above.
unfoldable pub stated_blob_fault : List ℕ → Blob → Option Fault
stated_blob_fault file blob = stated_blob_fault_from file blob (place blob.place)

abbrev pub head_within : ℕ → ℕ → Option ℕ → Option ℕ
head_within size n None = None
head_within size n (Some q) = if nat_lt size (q + (head_length + n)) then None else Some q

-- the place of the header, none where the header and the blob's bytes don't lie in the file's so many logical bytes
abbrev pub head_place : ℕ → Blob → Option ℕ
head_place size blob = head_within size blob.length (place blob.place)

-- The header and the blob's bytes lie in so many logical bytes.
abbrev pub LiesIn : ℕ → Blob → Type 0
LiesIn size blob = head_place size blob ≡ Some (blob_head blob)

-- the bytes of a blob
abbrev pub stated_blob_bytes : List ℕ → Blob → List ℕ
stated_blob_bytes file blob = take blob.length (drop (blob_start blob) (logical file))

-- a tree with these nodes has a blob of this number
abbrev pub HasBlob : List RawNode → ℕ → Type 0
HasBlob nodes k = (e : Element) → nodes ≡ preorder e → k < length (blobs_of e)

-- This is so of blob k of a tree with these nodes.
abbrev pub OfBlob : List RawNode → ℕ → (Blob → Type 0) → Type 0
OfBlob nodes k P = (e : Element) → nodes ≡ preorder e → (blob : Blob) → slice_get (blobs_of e) k ≡ Some blob → P blob

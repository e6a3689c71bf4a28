-- The section of a blob (ASTM E2807, blob section): its first fault, and the bytes of the blob.
-- A place is a logical offset and an offset a physical one.
use Rattle.std.specs.Prelude.{ℕ, ◌+◌, ◌==◌, not, nat_lt, List, take, drop, Option, Some, None}
use Rattle.std.specs.Option.{option_or}
use Rattle.e57_base.specs.Fault.{fault}
use Rattle.e57_base.specs.declared.fault.Fault.{Fault}
use Rattle.e57_base.specs.declared.kind.Kind.TheVariants.{BlobPlace, BlobId}
use Rattle.e57_layout.specs.Headers.{blob_head_at}
use Rattle.e57_page.specs.Place.{place}
use Rattle.e57_page.specs.File.{logical, logical_size, span_fault}
use Rattle.e57_cloud.specs.Section.{when, or_zero}

-- how many bytes the header of a blob section has
abbrev pub blob_header_length : ℕ
blob_header_length = 16

-- a blob as the element tree states it: the number of its node, the physical offset of its section, its length in bytes
pub record Blob : Type 0 where
  pub node : ℕ
  pub offset : ℕ
  pub length : ℕ

-- Where the section begins with this place: its header and the blob's bytes lie in the file, the header's pages have no
-- fault, and its id is 0.
abbrev pub blob_fault_from : List ℕ → Blob → Option ℕ → Option Fault
blob_fault_from file b None = Some (fault BlobPlace b.node b.offset)
blob_fault_from file b (Some start) =
    option_or (when (nat_lt (logical_size file) (start + (blob_header_length + b.length))) (fault BlobPlace b.node b.offset))
    (option_or (span_fault file start blob_header_length)
    (when (not ((blob_head_at (logical file) start).id == 0)) (fault BlobId b.node (blob_head_at (logical file) start).id)))

-- The first fault of a blob's section: its place, the pages of its header, its id. Its length isn't judged.
unfoldable pub blob_fault : List ℕ → Blob → Option Fault
blob_fault file b = blob_fault_from file b (place b.offset)

-- The bytes of a blob without fault, directly behind the header of its section.
unfoldable pub blob_bytes : List ℕ → Blob → List ℕ
blob_bytes file b = take b.length (drop (or_zero (place b.offset) + blob_header_length) (logical file))

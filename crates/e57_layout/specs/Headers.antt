-- The headers of sections (ASTM E2807, compressed vector section header and blob section header): how each is spelled,
-- and the numbers that are read of the one at place q. Reserved bytes are spelled as zeros, and not read.
use Rattle.std.specs.Prelude.{ℕ, ◌+◌, ◌*◌, List, ◌++◌, replicate}
use Rattle.e57_bits.specs.Bits.{number}
use Rattle.e57_layout.specs.declared.section.SectionHeader.{SectionHeader}
use Rattle.e57_layout.specs.declared.section.BlobHeader.{BlobHeader}
use Rattle.e57_layout.specs.Bytes.{low_bytes}

-- id, 7 reserved bytes, length of the section, offset of the data, offset of the index
unfoldable pub section_head : SectionHeader → List ℕ
section_head h =
    low_bytes 1 h.id ++ (replicate 7 0 ++ (low_bytes 8 h.length ++ (low_bytes 8 h.data_place ++ low_bytes 8 h.index)))

unfoldable pub section_head_at : List ℕ → ℕ → SectionHeader
section_head_at b q = record {
  id = number b (8 * q) 8;
  length = number b (8 * q + 64) 64;
  data_place = number b (8 * q + 128) 64;
  index = number b (8 * q + 192) 64;
}

-- id, 7 reserved bytes, length of the section
unfoldable pub blob_head_of : BlobHeader → List ℕ
blob_head_of h = low_bytes 1 h.id ++ (replicate 7 0 ++ low_bytes 8 h.length)

-- the header of a blob section of this length
abbrev pub blob_head : ℕ → List ℕ
blob_head length = blob_head_of (record { id = 0; length = length })

unfoldable pub blob_head_at : List ℕ → ℕ → BlobHeader
blob_head_at b q = record { id = number b (8 * q) 8; length = number b (8 * q + 64) 64 }

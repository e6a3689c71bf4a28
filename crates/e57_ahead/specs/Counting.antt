-- How far the items of the first Float field of a section without an index were counted, and that this is so in a file.
use Rattle.std.specs.Prelude.{◌≡◌, ℕ, ◌+◌, ◌-◌, ◌/◌, ◌<◌, ◌≤◌, ◌⊎◌, nat_lt, Bool, true, false, min, if◌then◌else◌, List, length, Some}
use Rattle.e57_layout.specs.Values.{ItemKind}
use Rattle.e57_layout.specs.declared.section.Section.{Section}
use Rattle.e57_layout.specs.declared.field.Fixed.{Fixed}
use Rattle.e57_cloud.specs.Walk.{Packet, IsFront}
use Rattle.e57_cloud.specs.Chunks.{data_packets, stream_of, by_chunk}
use Rattle.e57_cloud.specs.PathItem.{chunk_at, cover_from}
use Rattle.e57_cloud.specs.Met.{OnCover}
use Rattle.e57_ahead.specs.declared.reached.Reached.{Reached}
use Rattle.e57_ahead.specs.declared.reached.Covered.{Covered}

-- the section, its first Float field, and how far the items of this field were counted
pub record Search : Type 0 where
  pub section : Section
  pub fixed : Fixed
  pub reached : Reached

-- nothing was counted
abbrev pub begun : Section → Reached
begun s = record { first = 0; place = s.data_place; taken = s.data_place; bytes = 0; has_data = false }

-- From where record i is searched: from where the count stands, or anew where the record is before its chunk.
abbrev pub from : Section → Reached → ℕ → Reached
from s r i = if nat_lt i r.first then begun s else r

-- an item of a Float field has 4 or 8 bytes
abbrev pub IsWidth : Fixed → Type 0
IsWidth fixed = (fixed.bytes ≡ 4) ⊎ (fixed.bytes ≡ 8)

-- how many whole items were counted in the chunk
abbrev pub items : Fixed → Reached → ℕ
items fixed r = r.bytes / fixed.bytes

-- the count of another chunk after its first data packet, of n bytes, with so many of the Float field
abbrev pub anew : Fixed → Reached → ℕ → ℕ → Reached
anew fixed r n bytes = record { first = r.first + items fixed r; place = r.taken; taken = r.taken + n; bytes = bytes; has_data = true }

-- fewer than four bytes of the section are left
abbrev pub has_ended : Section → Reached → Bool
has_ended s r = nat_lt s.end (r.taken + 4)

-- What is known of the chunk: it has the records of its items that were counted, or all where the section ended.
abbrev pub answered : Section → Fixed → Reached → Covered
answered s fixed r =
    record {
      start = r.first;
      until = if has_ended s r then s.count else min s.count (r.first + items fixed r);
      place = r.place;
    }

-- Whatever the file: the packets were taken in the section from its data on, and have at least the bytes that were counted.
pub record IsWithin (s : Section) (r : Reached) : Type 0 where
  pub begins : s.data_place ≤ r.place
  pub counted : r.place + r.bytes ≤ r.taken
  pub within : s.data_place ≤ s.end → r.taken ≤ s.end

-- what is kept for a section without an index, whatever the file
pub record IsSearch (s : Section) (fixed : Fixed) (r : Reached) : Type 0 where
  pub unindexed : s.index ≡ 0
  pub is_field : fixed.field < s.fields
  pub width : IsWidth fixed
  pub within : IsWithin s r

-- Page p may be asked for to find the chunk of record i, whatever the field that is then read: it is of a packet before which
-- too few whole items of the Float field were counted, in the walks from the section's data on.
abbrev pub OnWay : List ℕ → Section → Fixed → ℕ → ℕ → Type 0
OnWay file s fixed i p = (f : ℕ) (kind : ItemKind) → OnCover file s fixed f kind i p (s.end - s.data_place) 0 s.data_place

-- The count is that of this file. These packets of one chunk stand from the chunk's place up to where packets were taken; the
-- chunks before have fewer records than any record that is searched from here, and their walks were on its way.
pub record StandsIn (file : List ℕ) (s : Section) (fixed : Fixed) (r : Reached) : Type 0 where
  pub packets : List Packet
  pub front : IsFront file s r.place packets r.taken
  pub one_chunk : length (by_chunk (data_packets packets)) ≡ 1
  pub has_data : r.has_data ≡ nat_lt 0 (length (data_packets packets))
  pub counted : r.bytes ≡ length (stream_of fixed.field (data_packets packets))
  pub chunk : (i : ℕ) → r.first ≤ i → chunk_at file s (Some fixed) i ≡ cover_from file s fixed i r.first r.place
  pub way : (i p f : ℕ) (kind : ItemKind) → r.first ≤ i → OnCover file s fixed f kind i p (s.end - r.place) r.first r.place
      → OnCover file s fixed f kind i p (s.end - s.data_place) 0 s.data_place

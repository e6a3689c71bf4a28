-- The law of a written section: where it stands in right pages, it has no fault, and its records are those that it was given.
use Rattle.std.specs.Prelude.{nat_lt, ◌≡◌, ℕ, ◌+◌, ◌^◌, ◌<◌, ◌≤◌, ◌==◌, false, List, [], ◌∷◌, ◌++◌, length, Option, None, pos}
use Rattle.std.specs.List.{AllByRecursion}
use Rattle.std.proofs.Common.{refl, sym, subst, ◌∙◌, arith, append-nil, lit≤, lit<}
use Rattle.std.proofs.lemmas.Bool.{le-ltb, ne_eqb}
use Rattle.std.proofs.lemmas.List.{length-map}
use Rattle.std.proofs.lemmas.List.Concat.{flat_map-append}
use Rattle.e57_page.specs.File.{logical, span_fault, logical_size}
use Rattle.e57_layout.specs.Standing.{Stands}
use Rattle.e57_layout.specs.Values.{ItemKind, strings, Value, whole, IsKind}
use Rattle.e57_layout.specs.Headers.{section_head, section_head_at}
use Rattle.e57_layout.specs.Packing.{Block, blocks}
use Rattle.e57_layout.specs.Written.{physical, Spelled, packet_bytes, packets_bytes, chunks_spelled, chunk_entries, index_spelled, root_place, packets_spelled, data_spelled, root_for, header_for, section_spelled}
use Rattle.e57_layout.proofs.Laws.Standing.{Stands-front, Stands-behind, Stands-past, Stands-within}
use Rattle.e57_page.proofs.FileLaws.{length-logical}
use Rattle.e57_layout.proofs.Laws.Layouts.{length-section_head, section_head-read}
use Rattle.e57_layout.proofs.Laws.Lists.{all-append}
use Rattle.e57_layout.proofs.Laws.Blocks.{block_records, IsBlock, blocks-are, blocks-records, blocks-step, blocks-column, columns-at, columns-length}
use Rattle.e57_layout.proofs.Laws.Chunks.{IsChunk, chunk_packets-some}
use Rattle.e57_layout.proofs.Laws.Written.{length-packets_bytes-append, length-chunk_entries, length-section_spelled, physical_is}
use Rattle.e57_layout.specs.declared.packet.Entry.{Entry}
use Rattle.e57_layout.specs.declared.field.Fixed.{Fixed}
use Rattle.e57_layout.specs.declared.section.Section.{Section}
use Rattle.e57_cloud.specs.Section.{section_header_fault, section_fault, section_at}
use Rattle.e57_cloud.specs.Walk.{walk_from}
use Rattle.e57_cloud.specs.Index.{index_fault, entries, next_first}
use Rattle.e57_cloud.specs.Chunks.{data_packets, by_chunk, packets_by_chunk, chunk_firsts, chunks, chunks_fault}
use Rattle.e57_cloud.specs.Cloud.{Leaf, float_from, body_fault, cloud_fault, records_of, kinds_of}
use Rattle.e57_cloud.proofs.Laws.Columns.{AreFields, fields-found}
use Rattle.e57_cloud.proofs.Laws.Spans.{span-right}
use Rattle.e57_cloud.specs.Written.{AreRight, IsWritten, IsCloud, written_cloud}
use Rattle.e57_cloud.proofs.Laws.Walks.{placed_from, placed-walk_from, IsSpelled}
use Rattle.e57_cloud.proofs.Laws.Indexes.{place-physical, physical-small, HasIndex, index-sound}
use Rattle.e57_cloud.proofs.Laws.Chunks.{HavePackets, placed_chunks, placed-append, data-append, data-chunks, by_chunk-placed, starts-agree, spelled_chunks, records-agree}
use Rattle.e57_cloud.proofs.Laws.Entries.{HasChunks, HaveRecords, below-zero, entries-sound, entries-rise, entries-room, block_records-count, chunks-fit, index-fit, index-no_data, root-within}

-- ---- the packets of a section

abbrev pub body_entries : List ItemKind → ℕ → List Block → List Entry
body_entries kinds q parts = chunk_entries kinds q 0 parts

abbrev pub index_from : List ItemKind → ℕ → List Block → ℕ
index_from kinds q parts = q + length (packets_bytes (chunks_spelled kinds parts))

-- the packets of chunks that stand from place q on, and of their index
abbrev pub body_spelled : List ItemKind → ℕ → List Block → List Spelled
body_spelled kinds q parts = chunks_spelled kinds parts ++ index_spelled 5 0 (index_from kinds q parts) (body_entries kinds q parts)

-- these packets stand in the section from its data to its end
pub record HasBody (file : List ℕ) (s : Section) (kinds : List ItemKind) (parts : List Block) : Type 0 where
  pub right : AreRight file
  pub inside : s.end ≤ logical_size file
  pub near : s.end ≤ 2 ^ 60
  pub fields : s.fields ≡ length kinds
  pub after : s.start + 32 ≤ s.data_place
  pub ends : s.data_place + length (packets_bytes (body_spelled kinds s.data_place parts)) ≡ s.end
  pub stands : Stands (logical file) s.data_place (packets_bytes (body_spelled kinds s.data_place parts))
  pub index : s.index ≡ physical (root_place 5 0 (index_from kinds s.data_place parts) (body_entries kinds s.data_place parts))
  pub some : 0 < length parts
  pub have : HaveRecords parts
  pub packets : HavePackets kinds parts
  pub are : AllByRecursion (IsChunk kinds) parts
  pub all : block_records parts ≡ s.count
  pub counted : s.count ≤ 2 ^ 40

body-bytes : (kinds : List ItemKind) (q : ℕ) (parts : List Block) → packets_bytes (body_spelled kinds q parts) ≡ packets_bytes (chunks_spelled kinds parts) ++ packets_bytes (index_spelled 5 0 (index_from kinds q parts) (body_entries kinds q parts))
body-bytes kinds q parts = flat_map-append packet_bytes (chunks_spelled kinds parts) (index_spelled 5 0 (index_from kinds q parts) (body_entries kinds q parts))

body-chunks : (file : List ℕ) (s : Section) (kinds : List ItemKind) (parts : List Block) → HasBody file s kinds parts → HasChunks file s kinds s.data_place parts
body-chunks file s kinds parts has =
    let size = length-packets_bytes-append (chunks_spelled kinds parts) (index_spelled 5 0 (index_from kinds s.data_place parts) (body_entries kinds s.data_place parts)) in
    let ends = rw size at has.ends in
    record {
      right = has.right;
      inside = has.inside;
      after = omega arith;
      within = omega arith;
      have = has.packets;
      are = has.are;
      stands = Stands-front (logical file) s.data_place (packets_bytes (chunks_spelled kinds parts)) (packets_bytes (index_spelled 5 0 (index_from kinds s.data_place parts) (body_entries kinds s.data_place parts))) (rw body-bytes at has.stands);
    }

entries-begin : (kinds : List ItemKind) (q count : ℕ) (parts : List Block) → 0 < length parts → next_first count (chunk_entries kinds q 0 parts) ≡ 0
unfolding chunk_entries
entries-begin kinds q count [] some = absurd (omega arith)
entries-begin kinds q count (part ∷ parts) some = refl

body-index : (file : List ℕ) (s : Section) (kinds : List ItemKind) (parts : List Block) → HasBody file s kinds parts → HasIndex file s 4 0 (index_from kinds s.data_place parts) (body_entries kinds s.data_place parts)
body-index file s kinds parts has =
    let size = length-packets_bytes-append (chunks_spelled kinds parts) (index_spelled 5 0 (index_from kinds s.data_place parts) (body_entries kinds s.data_place parts)) in
    let ends = rw size at has.ends in
    let few = block_records-count parts has.have in
    let count = length-chunk_entries kinds s.data_place 0 parts in
    let most : 2 ^ 40 ≤ 2048 ^ 5 = lit≤ tt in
    record {
      right = has.right;
      inside = has.inside;
      small = has.near;
      counted = omega (arith, has.counted);
      after = omega (arith, has.after);
      within = omega arith;
      stands = Stands-behind (logical file) s.data_place (packets_bytes (chunks_spelled kinds parts)) (packets_bytes (index_spelled 5 0 (index_from kinds s.data_place parts) (body_entries kinds s.data_place parts))) (rw body-bytes at has.stands);
      root = has.index;
      some = omega (arith, has.some);
      few = omega (arith, has.all, has.counted);
      low = omega arith;
      room = entries-room kinds s.data_place 0 parts (omega (arith, has.all, has.counted)) has.have (omega (arith, has.near));
      begins = entries-begin kinds s.data_place s.count parts has.some;
      up = entries-rise kinds s.data_place 0 0 s.count parts has.have (omega arith) (omega (arith, has.all));
      sound = entries-sound file s kinds s.data_place 0 s.count parts (body-chunks file s kinds parts has);
    }

-- what is read of a body
pub record IsBody (file : List ℕ) (s : Section) (kinds : List ItemKind) (parts : List Block) (fixed : Option Fixed) : Type 0 where
  pub indexed : (s.index == 0) ≡ false
  pub index : index_fault file s ≡ None
  pub entries_are : entries file s ≡ body_entries kinds s.data_place parts
  pub walk : walk_from file s s.data_place ≡ record { packets = placed_from s.data_place (body_spelled kinds s.data_place parts); fault = None }
  pub chunks_are : chunks file s fixed ≡ spelled_chunks kinds s.data_place 0 parts
  pub sound : chunks_fault file s fixed ≡ None

by_chunk-body : (kinds : List ItemKind) (q : ℕ) (parts : List Block) → 0 < length parts → HavePackets kinds parts → by_chunk (data_packets (placed_from q (body_spelled kinds q parts))) ≡ placed_chunks kinds q parts
by_chunk-body kinds q [] some have = absurd (omega arith)
by_chunk-body kinds q (part ∷ parts) some have =
    rw (
      placed-append q (chunks_spelled kinds (part ∷ parts)) (index_spelled 5 0 (index_from kinds q (part ∷ parts)) (body_entries kinds q (part ∷ parts))),
      data-append,
      data-chunks kinds q (part ∷ parts),
      index-no_data 5 0 (index_from kinds q (part ∷ parts)) (index_from kinds q (part ∷ parts)) (body_entries kinds q (part ∷ parts)),
      append-nil (placed_from q (chunks_spelled kinds (part ∷ parts))),
    )
    (by_chunk-placed kinds q part parts have)

has-index : (offset root q : ℕ) → offset ≡ physical root → q + 1 ≤ root → (offset == 0) ≡ false
has-index offset root q is above = ne_eqb offset 0 (λ none. let whole = physical_is root in omega arith)

pub body-read : (file : List ℕ) (s : Section) (kinds : List ItemKind) (parts : List Block) (fixed : Option Fixed) → HasBody file s kinds parts → IsBody file s kinds parts fixed
unfolding chunks chunks_fault packets_by_chunk chunk_firsts
body-read file s kinds parts fixed has =
    let idx = body-index file s kinds parts has in
    let of = index-sound file s 4 0 (index_from kinds s.data_place parts) (body_entries kinds s.data_place parts) idx in
    let leads = of.leads ∙ below-zero file (body_entries kinds s.data_place parts) in
    let fit = all-append (IsSpelled (length kinds)) (chunks_spelled kinds parts) (index_spelled 5 0 (index_from kinds s.data_place parts) (body_entries kinds s.data_place parts)) (chunks-fit kinds parts has.are) (index-fit (length kinds) file s 4 0 (index_from kinds s.data_place parts) (body_entries kinds s.data_place parts) idx) in
    let walk = placed-walk_from file s s.data_place (body_spelled kinds s.data_place parts) has.right has.inside (subst (λ (n : ℕ). AllByRecursion (IsSpelled n) (body_spelled kinds s.data_place parts)) (sym has.fields) fit) has.ends has.stands in
    let cut = by_chunk-body kinds s.data_place parts has.some has.packets in
    let root = root-within 5 0 (index_from kinds s.data_place parts) (body_entries kinds s.data_place parts) in
    let indexed = has-index s.index (root_place 5 0 (index_from kinds s.data_place parts) (body_entries kinds s.data_place parts)) (s.start + 31) has.index (omega (arith, root.0, has.after)) in
    record {
      indexed = indexed;
      index = of.sound;
      entries_are = leads;
      walk = walk;
      chunks_are = rw (indexed, walk, cut, leads) (records-agree kinds s.count s.data_place 0 parts (omega (arith, has.all)));
      sound = rw (indexed, walk, cut, leads) (starts-agree s kinds 0 s.data_place 0 parts has.packets);
    }

-- the section that is read there
abbrev pub written_section : ℕ → ℕ → ℕ → ℕ → List Leaf → List (List Value) → Section
written_section node q n count leaves columns = record {
  node = node;
  fields = length leaves;
  start = q;
  end = q + (32 + length (packets_bytes (packets_spelled (q + 32) (kinds_of leaves) n count columns)));
  data_place = q + 32;
  index = physical (root_for (q + 32) (kinds_of leaves) n count columns);
  count = count;
}

written-within : (file : List ℕ) (q n count : ℕ) (leaves : List Leaf) (columns : List (List Value)) → IsWritten file q n count leaves columns → q + (32 + length (packets_bytes (packets_spelled (q + 32) (kinds_of leaves) n count columns))) ≤ logical_size file
written-within file q n count leaves columns is =
    let size = length-section_spelled q (kinds_of leaves) n count columns in
    let inside = Stands-within (logical file) q (section_spelled q (kinds_of leaves) n count columns) is.stands (omega arith) in
    let whole = length-logical file in
    omega arith

chunks-are : (kinds : List ItemKind) (n : ℕ) (parts : List Block) → length kinds ≤ 512 → AllByRecursion IsKind kinds → AllByRecursion (IsBlock kinds n) parts → AllByRecursion (IsChunk kinds) parts × HaveRecords parts × HavePackets kinds parts
chunks-are kinds n [] few ok are = (tt, tt, tt)
chunks-are kinds n (part ∷ parts) few ok are =
    let rest = chunks-are kinds n parts few ok are.1 in
    ((record { few = few; kinds_ok = ok; columns = are.0.columns }, rest.0), (are.0.some, rest.1), (chunk_packets-some kinds part few are.0.some, rest.2))

-- its packets are those of its chunks and their index
written-body : (file : List ℕ) (node q n count : ℕ) (leaves : List Leaf) (columns : List (List Value)) → IsWritten file q n count leaves columns → HasBody file (written_section node q n count leaves columns) (kinds_of leaves) (blocks n count columns)
unfolding section_spelled packets_spelled data_spelled
written-body file node q n count leaves columns is =
    let kinds = kinds_of leaves in
    let within = written-within file q n count leaves columns is in
    let many : length kinds ≡ length leaves = length-map leaves (λ (leaf : Leaf). leaf.kind) in
    let parts = chunks-are kinds n (blocks n count columns) (omega (arith, is.few)) is.kinds_ok (blocks-are kinds n count columns is.chunk is.columns_ok) in
    let all = blocks-records n count columns is.chunk in
    record {
      right = is.right;
      inside = within;
      near = omega (arith, is.near);
      fields = sym many;
      after = omega arith;
      ends = omega arith;
      stands = Stands-past (logical file) q 32 (section_head (header_for q kinds n count columns)) (packets_bytes (packets_spelled (q + 32) kinds n count columns)) (length-section_head (header_for q kinds n count columns)) is.stands;
      index = refl;
      some = rw (blocks-step n count columns is.chunk is.some) (omega arith);
      have = parts.1;
      packets = parts.2;
      are = parts.0;
      all = all;
      counted = is.counted;
    }

written-header : (file : List ℕ) (q n count : ℕ) (leaves : List Leaf) (columns : List (List Value)) → IsWritten file q n count leaves columns → section_head_at (logical file) q ≡ header_for q (kinds_of leaves) n count columns
unfolding section_spelled packets_spelled data_spelled
written-header file q n count leaves columns is =
    let kinds = kinds_of leaves in
    let within = written-within file q n count leaves columns is in
    let near = is.near in
    let root = root-within 5 0 (index_from kinds (q + 32) (blocks n count columns)) (body_entries kinds (q + 32) (blocks n count columns)) in
    let size = length-packets_bytes-append (chunks_spelled kinds (blocks n count columns)) (index_spelled 5 0 (index_from kinds (q + 32) (blocks n count columns)) (body_entries kinds (q + 32) (blocks n count columns))) in
    section_head-read (logical file) q (header_for q kinds n count columns)
    (record { id = lit< tt; length = omega arith; data_place = physical-small (q + 32) (omega arith); index = physical-small (root_for (q + 32) kinds n count columns) (omega (arith, root.1)) })
    (Stands-front (logical file) q (section_head (header_for q kinds n count columns)) (packets_bytes (packets_spelled (q + 32) kinds n count columns)) is.stands)

-- the header has no fault
pub written-section_fault : (file : List ℕ) (node q n count : ℕ) (leaves : List Leaf) (columns : List (List Value)) → IsWritten file q n count leaves columns → section_fault file node (physical q) ≡ None
unfolding section_fault section_header_fault
written-section_fault file node q n count leaves columns is =
    let kinds = kinds_of leaves in
    let size = length (packets_bytes (packets_spelled (q + 32) kinds n count columns)) in
    let within : q + (32 + size) ≤ logical_size file = written-within file q n count leaves columns is in
    let room : nat_lt (logical_size file) (q + 32) ≡ false = le-ltb (logical_size file) (q + 32) (omega arith) in
    let head : span_fault file q 32 ≡ None = span-right file q 32 is.right (omega arith) in
    let long : nat_lt (32 + size) 32 ≡ false = le-ltb (32 + size) 32 (omega arith) in
    let inside : nat_lt (logical_size file) (q + (32 + size)) ≡ false = le-ltb (logical_size file) (q + (32 + size)) within in
    let low : nat_lt (q + 32) (q + 32) ≡ false = le-ltb (q + 32) (q + 32) (omega arith) in
    let high : nat_lt (q + (32 + size)) (q + 32) ≡ false = le-ltb (q + (32 + size)) (q + 32) (omega arith) in
    rw (place-physical, room, head, written-header file q n count leaves columns is, long, inside, place-physical, low, high)

-- and is read as the section that was written
pub written-section_at : (file : List ℕ) (node q n count : ℕ) (leaves : List Leaf) (columns : List (List Value)) → IsWritten file q n count leaves columns
    → section_at file node (physical q) count (length leaves) ≡ written_section node q n count leaves columns
unfolding section_at
written-section_at file node q n count leaves columns is = rw (place-physical, written-header file q n count leaves columns is, place-physical)

written-fields : (file : List ℕ) (node q n count : ℕ) (leaves : List Leaf) (columns : List (List Value)) → IsWritten file q n count leaves columns
    → AreFields 0 leaves (spelled_chunks (kinds_of leaves) (q + 32) 0 (blocks n count columns)) columns
written-fields file node q n count leaves columns is =
    let kinds = kinds_of leaves in
    let many : length kinds ≡ length leaves = length-map leaves (λ (leaf : Leaf). leaf.kind) in
    let parts = chunks-are kinds n (blocks n count columns) (omega (arith, is.few)) is.kinds_ok (blocks-are kinds n count columns is.chunk is.columns_ok) in
    fields-found (q + 32) 0 leaves (blocks n count columns) columns (whole (pos 0)) parts.0 (columns-length kinds count columns is.columns_ok)
    (λ g below. blocks-column n count g columns is.chunk (omega (arith, (columns-at kinds count columns g strings is.columns_ok below).0)))

pub written-cloud : (file : List ℕ) (node q n count : ℕ) (leaves : List Leaf) (columns : List (List Value)) → IsWritten file q n count leaves columns → IsCloud file (written_cloud node q count leaves) columns
unfolding cloud_fault records_of body_fault
written-cloud file node q n count leaves columns is =
    let some : (count == 0) ≡ false = ne_eqb count 0 (λ none. let h : 0 < count = is.some in omega arith) in
    let r = body-read file (written_section node q n count leaves columns) (kinds_of leaves) (blocks n count columns) (float_from 0 leaves) (written-body file node q n count leaves columns is) in
    let fields = written-fields file node q n count leaves columns is in
    let at = written-section_at file node q n count leaves columns is in
    record {
      sound = rw (some, written-section_fault file node q n count leaves columns is, at, r.indexed, r.index, r.walk, r.sound, r.chunks_are, fields.sound);
      records = rw (some, at, r.chunks_are, fields.are);
    }

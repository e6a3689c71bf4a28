-- Laws of chunks: the streams of a chunk's packets are its fields' bytes, and each of its items is read again.
use Rattle.std.proofs.Common.{◌≡◌, ℕ, zero, suc, ◌-◌, ◌*◌, ◌<◌, ◌≤◌, ◌==◌, List, [], ◌∷◌, ◌++◌, length, map, take, drop, get_or, None, refl, sym, ap, ◌∙◌, arith, ⊎_elim, length-take}
use Rattle.std.specs.Prelude.{pos}
use Rattle.std.specs.List.{AllByRecursion}
use Rattle.std.proofs.lemmas.Bool.{cond_both, eqb-true, cases_lt}
use Rattle.std.proofs.lemmas.List.{take-append-drop, append-nil, nil_from_length, length-map, map-append, take_all, drop_all}
use Rattle.std.proofs.lemmas.List.Concat.{flat_map-append}
use Rattle.e57_layout.specs.Bytes.{packed}
use Rattle.e57_layout.specs.Widths.{width}
use Rattle.e57_layout.specs.Values.{ItemKind, integers, words, strings, Value, here, IsKind}
use Rattle.e57_layout.specs.Strings.{string_bytes_of}
use Rattle.e57_layout.specs.Items.{item_at, AreItems, AreColumns, stored, octets_of, field_bytes}
use Rattle.e57_layout.specs.Packing.{first_records, later_records, Block, cut_blocks, blocks, group_length, group_streams, stream_over, chunk_groups, chunk_packets}
use Rattle.e57_layout.proofs.Laws.Numbers.{low_bytes-zero, packed_is, packed-append}
use Rattle.e57_layout.proofs.Laws.Items.{stored-below, words-below, field_bytes-item}
use Rattle.e57_layout.proofs.Laws.Lists.{all-take}
use Rattle.e57_layout.proofs.Laws.Blocks.{first_block, columns-at, first_records-column, later_records-column, later_records-columns, blocks-step}
use Rattle.e57_layout.proofs.Laws.Packing.{HasStreams, IsPacket, packets_of-stream, packets_of-packets, packets_of-some}

-- ---- a field's bytes

packed-none : (w : ℕ) → packed w [] ≡ []
packed-none w =
    let bits : w * 0 ≡ 0 = grind arith in
    rw (packed_is w [], bits) (low_bytes-zero _)

-- no items, no bytes
pub field_bytes-none : (kind : ItemKind) → field_bytes kind [] ≡ []
unfolding field_bytes
field_bytes-none (integers low high) = packed-none (width low high)
field_bytes-none (words w) = packed-none w
field_bytes-none strings = refl

-- after a multiple of 8 items the bytes of more items begin a byte
pub field_bytes-append : (kind : ItemKind) (xs ys : List Value) (m : ℕ) → IsKind kind → AreItems kind xs → length xs ≡ 8 * m → field_bytes kind (xs ++ ys) ≡ field_bytes kind xs ++ field_bytes kind ys
unfolding field_bytes
field_bytes-append (integers low high) xs ys m ok h e =
    ap (packed (width low high)) (map-append (stored low) xs ys)
    ∙ packed-append (width low high) (width low high * m) (map (stored low) xs) (map (stored low) ys) (stored-below low high xs ok.1 h) (rw (length-map, e) (grind arith))
field_bytes-append (words w) xs ys m ok h e =
    ap (packed w) (map-append (stored (pos 0)) xs ys)
    ∙ packed-append w (w * m) (map (stored (pos 0)) xs) (map (stored (pos 0)) ys) (words-below w xs h) (rw (length-map, e) (grind arith))
field_bytes-append strings xs ys m ok h e = flat_map-append (λ value. string_bytes_of (octets_of value)) xs ys

-- the first 8 items and the later ones
field_bytes-cut : (kind : ItemKind) (xs : List Value) → IsKind kind → AreItems kind xs → field_bytes kind (take 8 xs) ++ field_bytes kind (drop 8 xs) ≡ field_bytes kind xs
field_bytes-cut kind xs ok h = ⊎_elim
    (λ few. rw (take_all 8 xs (omega arith), drop_all 8 xs (omega arith), field_bytes-none kind) (append-nil (field_bytes kind xs)))
    (λ many. sym (field_bytes-append kind (take 8 xs) (drop 8 xs) 1 ok (all-take _ 8 xs h) (length-take 8 xs ∙ omega arith)) ∙ ap (field_bytes kind) (take-append-drop 8 xs))
    (cases_lt (length xs) 8)

-- ---- groups

pub length-group_streams : (kinds : List ItemKind) (columns : List (List Value)) → length (group_streams kinds columns) ≡ length kinds
unfolding group_streams
length-group_streams [] columns = refl
length-group_streams (kind ∷ kinds) [] = ap suc (length-group_streams kinds [])
length-group_streams (kind ∷ kinds) (column ∷ columns) = ap suc (length-group_streams kinds columns)

pub group_streams-stream : (kinds : List ItemKind) (columns : List (List Value)) (f : ℕ) (kind : ItemKind) → f < length kinds → get_or (group_streams kinds columns) f [] ≡ field_bytes (get_or kinds f kind) (get_or columns f [])
unfolding group_streams
group_streams-stream [] columns f other h = absurd (omega arith)
group_streams-stream (kind ∷ kinds) [] zero other h = sym (field_bytes-none kind)
group_streams-stream (kind ∷ kinds) [] (suc f) other h = group_streams-stream kinds [] f other (omega arith)
group_streams-stream (kind ∷ kinds) (column ∷ columns) zero other h = refl
group_streams-stream (kind ∷ kinds) (column ∷ columns) (suc f) other h = group_streams-stream kinds columns f other (omega arith)

-- the groups of blocks
abbrev pub groups_of : List ItemKind → List Block → List (List (List ℕ))
groups_of kinds parts = map (λ (group : Block). group_streams kinds group.columns) parts

pub groups-count : (kinds : List ItemKind) (parts : List Block) → AllByRecursion (HasStreams (length kinds)) (groups_of kinds parts)
groups-count kinds [] = tt
groups-count kinds (group ∷ parts) = (length-group_streams kinds group.columns, groups-count kinds parts)

pub kinds-at : (kinds : List ItemKind) (f : ℕ) (kind : ItemKind) → AllByRecursion IsKind kinds → f < length kinds → IsKind (get_or kinds f kind)
kinds-at [] f other ok h = absurd (omega arith)
kinds-at (kind ∷ kinds) zero other ok h = ok.0
kinds-at (kind ∷ kinds) (suc f) other ok h = kinds-at kinds f other ok.1 (omega arith)

pub groups-stream : (most : ℕ) (kinds : List ItemKind) (count : ℕ) (columns : List (List Value)) (f : ℕ) (kind : ItemKind) → count ≤ most → AllByRecursion IsKind kinds → AreColumns kinds count columns → f < length kinds → stream_over f (groups_of kinds (cut_blocks most 8 count columns)) ≡ field_bytes (get_or kinds f kind) (get_or columns f [])
unfolding cut_blocks
groups-stream zero kinds count columns f kind h ok are g =
    let column = columns-at kinds count columns f kind are g in
    let nothing : get_or columns f [] ≡ [] = nil_from_length (get_or columns f []) (omega arith) in
    rw nothing (sym (field_bytes-none (get_or kinds f kind)))
groups-stream (suc most) kinds count columns f kind h ok are g =
    let column = columns-at kinds count columns f kind are g in
    cond_both (count == 0) [] (first_block 8 count columns ∷ cut_blocks most 8 (count - 8) (later_records 8 columns)) (λ (parts : List Block). stream_over f (groups_of kinds parts) ≡ field_bytes (get_or kinds f kind) (get_or columns f []))
    (λ none.
    let empty : count ≡ 0 = eqb-true count 0 none in
    let nothing : get_or columns f [] ≡ [] = nil_from_length (get_or columns f []) (omega arith) in
    rw nothing (sym (field_bytes-none (get_or kinds f kind))))
    (λ more.
    ap (λ later. get_or (group_streams kinds (first_records 8 columns)) f [] ++ later) (groups-stream most kinds (count - 8) (later_records 8 columns) f kind (omega arith) ok (later_records-columns kinds 8 count columns are) g)
    ∙ ap (λ front. front ++ field_bytes (get_or kinds f kind) (get_or (later_records 8 columns) f [])) (group_streams-stream kinds (first_records 8 columns) f kind g)
    ∙ ap (λ front. field_bytes (get_or kinds f kind) front ++ field_bytes (get_or kinds f kind) (get_or (later_records 8 columns) f [])) (first_records-column 8 f columns)
    ∙ ap (λ later. field_bytes (get_or kinds f kind) (take 8 (get_or columns f [])) ++ field_bytes (get_or kinds f kind) later) (later_records-column 8 f columns)
    ∙ field_bytes-cut (get_or kinds f kind) (get_or columns f []) (kinds-at kinds f kind ok g) column.1)

-- ---- chunks

-- what holds where chunks are made: at most 512 fields, limits that are in order, a column of items for each field
pub record IsChunk (kinds : List ItemKind) (chunk : Block) : Type 0 where
  pub few : length kinds ≤ 512
  pub kinds_ok : AllByRecursion IsKind kinds
  pub columns : AreColumns kinds chunk.count chunk.columns

chunk_groups-stream : (kinds : List ItemKind) (chunk : Block) (f : ℕ) (kind : ItemKind) → IsChunk kinds chunk → f < length kinds → stream_over f (chunk_groups kinds chunk) ≡ field_bytes (get_or kinds f kind) (get_or chunk.columns f [])
unfolding chunk_groups blocks
chunk_groups-stream kinds chunk f kind ok h =
    groups-stream chunk.count kinds chunk.count chunk.columns f kind (omega arith) ok.kinds_ok ok.columns h

chunk_groups-count : (kinds : List ItemKind) (chunk : Block) → AllByRecursion (HasStreams (length kinds)) (chunk_groups kinds chunk)
unfolding chunk_groups
chunk_groups-count kinds chunk = groups-count kinds (blocks group_length chunk.count chunk.columns)

-- stream f of the packets of a chunk is the bytes of field f
pub chunk_packets-stream : (kinds : List ItemKind) (chunk : Block) (f : ℕ) (kind : ItemKind) → IsChunk kinds chunk → f < length kinds → stream_over f (chunk_packets kinds chunk) ≡ field_bytes (get_or kinds f kind) (get_or chunk.columns f [])
unfolding chunk_packets
chunk_packets-stream kinds chunk f kind ok h =
    packets_of-stream (length kinds) f None (chunk_groups kinds chunk) ok.few tt (chunk_groups-count kinds chunk) ∙ chunk_groups-stream kinds chunk f kind ok h

-- each packet of a chunk has a stream for each field, and is within a packet's limit
pub chunk_packets-packets : (kinds : List ItemKind) (chunk : Block) → IsChunk kinds chunk → AllByRecursion (IsPacket (length kinds)) (chunk_packets kinds chunk)
unfolding chunk_packets
chunk_packets-packets kinds chunk ok = packets_of-packets (length kinds) None (chunk_groups kinds chunk) ok.few tt (chunk_groups-count kinds chunk)

-- a chunk with records has a packet
pub chunk_packets-some : (kinds : List ItemKind) (chunk : Block) → length kinds ≤ 512 → 0 < chunk.count → 0 < length (chunk_packets kinds chunk)
unfolding chunk_packets chunk_groups
chunk_packets-some kinds chunk few some =
    rw (blocks-step 8 chunk.count chunk.columns (omega arith) some)
    (packets_of-some (length kinds) (group_streams kinds (first_records 8 chunk.columns)) (groups_of kinds (blocks 8 (chunk.count - 8) (later_records 8 chunk.columns))) few (length-group_streams kinds (first_records 8 chunk.columns)))

-- item k of field f of a chunk is found in the streams of its packets
pub chunk-item : (kinds : List ItemKind) (chunk : Block) (f k : ℕ) (kind : ItemKind) (d : Value) → IsChunk kinds chunk → f < length kinds → k < chunk.count → item_at (get_or kinds f kind) (stream_over f (chunk_packets kinds chunk)) k ≡ here (get_or (get_or chunk.columns f []) k d)
chunk-item kinds chunk f k kind d ok h g =
    let column = columns-at kinds chunk.count chunk.columns f kind ok.columns h in
    rw (chunk_packets-stream kinds chunk f kind ok h)
    (field_bytes-item (get_or kinds f kind) (get_or chunk.columns f []) k d (kinds-at kinds f kind ok.kinds_ok h) column.1 (rw column.0 g))

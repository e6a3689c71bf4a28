-- Laws of headers and packets: one that is spelled at a place is read there as itself.
use Rattle.std.proofs.Common.{◌≡◌, ℕ, ◌+◌, ◌-◌, ◌*◌, ◌%◌, ◌^◌, ◌<◌, ◌≤◌, ◌==◌, ◌&&◌, Bool, true, false, List, [], ◌∷◌, ◌++◌, length, take, drop, replicate, refl, sym, ap, ◌∙◌, subst, arith, length-append, lit<}
use Rattle.std.specs.List.{flat_map, concat, AllByRecursion}
use Rattle.std.proofs.lemmas.List.{length-map, length-replicate}
use Rattle.std.proofs.lemmas.List.Sums.{sum_by-cons}
use Rattle.e57_bits.specs.Bits.{number}
use Rattle.e57_bits.proofs.BitLaws.{number-lt, number-split}
use Rattle.e57_layout.specs.declared.section.SectionHeader.{SectionHeader}
use Rattle.e57_layout.specs.declared.section.BlobHeader.{BlobHeader}
use Rattle.e57_layout.specs.declared.packet.PacketHead.{PacketHead}
use Rattle.e57_layout.specs.declared.packet.IndexHead.{IndexHead}
use Rattle.e57_layout.specs.declared.packet.Entry.{Entry}
use Rattle.e57_layout.specs.Bytes.{low_bytes}
use Rattle.e57_layout.specs.Standing.{Stands}
use Rattle.e57_layout.specs.Headers.{section_head, section_head_at, blob_head_of, blob_head_at}
use Rattle.e57_layout.specs.Packets.{packet_head, whole_words, padding, lengths, total, data_size, stream_lengths, flag, data_head, data_packet, sort_at, restart_at, length_at, packet_head_at, stream_count_at, lengths_at, streams_at, streams_of}
use Rattle.e57_layout.specs.IndexPackets.{index_head, entry_bytes, index_size, index_packet, entry_count_at, level_at, entry_at, entries_at}
use Rattle.e57_layout.proofs.Laws.Numbers.{AreBelow, length-low_bytes}
use Rattle.e57_layout.proofs.Laws.Standing.{Stands-front, Stands-behind, Stands-low_bytes, Stands-past, Stands-past_number, Stands-number_first}

-- ---- the headers of sections

-- the numbers have room in the header
pub record IsSectionHeader (h : SectionHeader) : Type 0 where
  pub id : h.id < 2 ^ 8
  pub length : h.length < 2 ^ 64
  pub data_place : h.data_place < 2 ^ 64
  pub index : h.index < 2 ^ 64

pub length-section_head : (h : SectionHeader) → length (section_head h) ≡ 32
unfolding section_head
length-section_head h = simp (length-append, length-low_bytes)

pub section_head-read : (b : List ℕ) (q : ℕ) (h : SectionHeader) → IsSectionHeader h → Stands b q (section_head h) → section_head_at b q ≡ h
unfolding section_head section_head_at
section_head-read b q h small stands =
    let at_zeros = Stands-past_number b q 1 h.id _ stands in
    let at_length = Stands-past b (q + 1) 7 (replicate 7 0) _ refl at_zeros in
    let at_data = Stands-past_number b (q + 1 + 7) 8 h.length _ at_length in
    let at_index = Stands-past_number b (q + 1 + 7 + 8) 8 h.data_place _ at_data in
    let id : number b (8 * q) 8 ≡ h.id = Stands-number_first b q 1 h.id (8 * q) 8 _ stands small.id refl refl in
    let length : number b (8 * q + 64) 64 ≡ h.length = Stands-number_first b (q + 1 + 7) 8 h.length (8 * q + 64) 64 _ at_length small.length (omega arith) refl in
    let data_place : number b (8 * q + 128) 64 ≡ h.data_place = Stands-number_first b (q + 1 + 7 + 8) 8 h.data_place (8 * q + 128) 64 _ at_data small.data_place (omega arith) refl in
    let index : number b (8 * q + 192) 64 ≡ h.index = Stands-low_bytes b (q + 1 + 7 + 8 + 8) 8 h.index (8 * q + 192) 64 at_index small.index (omega arith) refl in
    rw (id, length, data_place, index) refl

pub length-blob_head_of : (h : BlobHeader) → length (blob_head_of h) ≡ 16
unfolding blob_head_of
length-blob_head_of h = simp (length-append, length-low_bytes)

pub blob_head-read : (b : List ℕ) (q : ℕ) (h : BlobHeader) → h.id < 2 ^ 8 → h.length < 2 ^ 64 → Stands b q (blob_head_of h) → blob_head_at b q ≡ h
unfolding blob_head_of blob_head_at
blob_head-read b q h small_id small_length stands =
    let at_zeros = Stands-past_number b q 1 h.id _ stands in
    let at_length = Stands-past b (q + 1) 7 (replicate 7 0) _ refl at_zeros in
    let id : number b (8 * q) 8 ≡ h.id = Stands-number_first b q 1 h.id (8 * q) 8 _ stands small_id refl refl in
    let length : number b (8 * q + 64) 64 ≡ h.length = Stands-low_bytes b (q + 1 + 7) 8 h.length (8 * q + 64) 64 at_length small_length (omega arith) refl in
    rw (id, length) refl

-- ---- the head of a packet

-- the numbers have room in the head
pub record IsPacketHead (h : PacketHead) : Type 0 where
  pub sort : h.sort < 2 ^ 8
  pub flags : h.flags < 2 ^ 8
  pub some : 0 < h.length
  pub length : h.length ≤ 65536

pub length-packet_head : (h : PacketHead) → length (packet_head h) ≡ 4
unfolding packet_head
length-packet_head h = simp (length-append, length-low_bytes)

pub packet_head-read : (b : List ℕ) (q : ℕ) (h : PacketHead) → IsPacketHead h → Stands b q (packet_head h) → packet_head_at b q ≡ h
unfolding packet_head packet_head_at sort_at length_at
packet_head-read b q h small stands =
    let at_flags = Stands-past_number b q 1 h.sort _ stands in
    let at_length = Stands-past_number b (q + 1) 1 h.flags _ at_flags in
    let some : 0 < h.length = small.some in
    let most : h.length ≤ 65536 = small.length in
    let sort : number b (8 * q) 8 ≡ h.sort = Stands-number_first b q 1 h.sort (8 * q) 8 _ stands small.sort refl refl in
    let flags : number b (8 * q + 8) 8 ≡ h.flags = Stands-number_first b (q + 1) 1 h.flags (8 * q + 8) 8 _ at_flags small.flags (omega arith) refl in
    let below : number b (8 * q + 16) 16 ≡ h.length - 1 = Stands-low_bytes b (q + 1 + 1) 2 (h.length - 1) (8 * q + 16) 16 at_length (omega arith) (omega arith) refl in
    let length : number b (8 * q + 16) 16 + 1 ≡ h.length = omega arith in
    rw (sort, flags, length) refl

pub packet_head-sort : (b : List ℕ) (q : ℕ) (h : PacketHead) → IsPacketHead h → Stands b q (packet_head h) → sort_at b q ≡ h.sort
unfolding packet_head_at
packet_head-sort b q h small stands = ap (λ (p : PacketHead). p.sort) (packet_head-read b q h small stands)

pub packet_head-length : (b : List ℕ) (q : ℕ) (h : PacketHead) → IsPacketHead h → Stands b q (packet_head h) → length_at b q ≡ h.length
unfolding packet_head_at
packet_head-length b q h small stands = ap (λ (p : PacketHead). p.length) (packet_head-read b q h small stands)

packet_head-flags : (b : List ℕ) (q : ℕ) (h : PacketHead) → IsPacketHead h → Stands b q (packet_head h) → number b (8 * q + 8) 8 ≡ h.flags
unfolding packet_head_at
packet_head-flags b q h small stands = ap (λ (p : PacketHead). p.flags) (packet_head-read b q h small stands)

-- a number's lowest bit
lowest_bit : (b : List ℕ) (t : ℕ) → number b t 1 ≡ number b t 8 % 2
lowest_bit b t =
    let split : number b t 8 ≡ number b t 1 + 2 * number b (t + 1) 7 = number-split b t 1 7 in
    let low : number b t 1 < 2 = number-lt b t 1 in
    omega arith

-- the restart flag is bit 0 of a data packet's flags
pub restart_at-flags : (b : List ℕ) (q : ℕ) → restart_at b q ≡ ((packet_head_at b q).sort == 1 && (packet_head_at b q).flags % 2 == 1)
unfolding restart_at packet_head_at
restart_at-flags b q = rw (lowest_bit b (8 * q + 8)) refl

-- ---- a whole number of words

pub whole_words-lt : (n : ℕ) → whole_words n < n + 4
unfolding whole_words
whole_words-lt n = omega arith

pub le-whole_words : (n : ℕ) → n ≤ whole_words n
unfolding whole_words
le-whole_words n = omega arith

pub whole_words-mod : (n : ℕ) → whole_words n % 4 ≡ 0
unfolding whole_words
whole_words-mod n = omega arith

-- within a packet's limit
pub whole_words-le : (n : ℕ) → n ≤ 65536 → whole_words n ≤ 65536
unfolding whole_words
whole_words-le n h = omega arith

pub length-padding : (n : ℕ) → n + length (padding n) ≡ whole_words n
unfolding padding
length-padding n = let h : n ≤ whole_words n = le-whole_words n in rw length-replicate (omega arith)

-- ---- data packets

-- two bytes for each number
pub length-two_bytes : (ns : List ℕ) → length (flat_map (low_bytes 2) ns) ≡ 2 * length ns
length-two_bytes [] = refl
length-two_bytes (n ∷ ns) = rw (length-append, length-low_bytes, length-two_bytes ns) (omega arith)

pub total-nil : total [] ≡ 0
total-nil = refl

pub total-cons : (s : List ℕ) (ss : List (List ℕ)) → total (s ∷ ss) ≡ length s + total ss
total-cons s ss = sum_by-cons (λ n. n) (length s) (lengths ss)

pub length-concat : (ss : List (List ℕ)) → length (concat ss) ≡ total ss
length-concat [] = refl
length-concat (s ∷ ss) = rw (length-append, length-concat ss, total-cons s ss)

pub data_size_is : (ss : List (List ℕ)) → data_size ss ≡ 6 + 2 * length ss + total ss
unfolding data_size
data_size_is ss = refl

pub length-stream_lengths : (ns : List ℕ) → length (stream_lengths ns) ≡ 2 + 2 * length ns
unfolding stream_lengths
length-stream_lengths ns = rw (length-append, length-low_bytes, length-two_bytes ns)

pub length-data_packet : (restart : Bool) (streams : List (List ℕ)) → length (data_packet restart streams) ≡ whole_words (data_size streams)
unfolding data_packet
length-data_packet restart streams =
    let size : data_size streams ≡ 6 + 2 * length streams + total streams = data_size_is streams in
    let filled : data_size streams + length (padding (data_size streams)) ≡ whole_words (data_size streams) = length-padding (data_size streams) in
    rw (length-append, length-packet_head, length-append, length-stream_lengths, length-map, length-append, length-concat) (omega arith)

-- lengths of streams, spelled at a place
pub lengths-read : (b : List ℕ) (q : ℕ) (ns : List ℕ) → AreBelow 16 ns → Stands b q (flat_map (low_bytes 2) ns) → lengths_at b q (length ns) ≡ ns
unfolding lengths_at
lengths-read b q [] small stands = refl
lengths-read b q (n ∷ ns) small stands =
    let first : number b (8 * q) 16 ≡ n = Stands-number_first b q 2 n (8 * q) 16 _ stands small.0 refl refl in
    rw (first, lengths-read b (q + 2) ns small.1 (Stands-past_number b q 2 n _ stands))

-- streams at a place
pub streams-read : (b : List ℕ) (q : ℕ) (streams : List (List ℕ)) → Stands b q (concat streams) → streams_at b q (lengths streams) ≡ streams
unfolding streams_at
streams-read b q [] stands = refl
streams-read b q (s ∷ ss) stands =
    let first : take (length s) (drop q b) ≡ s = Stands-front b q s (concat ss) stands in
    rw (first, streams-read b (q + length s) ss (Stands-behind b q s (concat ss) stands))

-- each stream is shorter than all of them
lengths-below : (n : ℕ) (streams : List (List ℕ)) → total streams < 2 ^ n → AreBelow n (lengths streams)
lengths-below n [] h = tt
lengths-below n (s ∷ ss) h =
    let e : total (s ∷ ss) ≡ length s + total ss = total-cons s ss in
    (omega arith, lengths-below n ss (omega arith))

-- a data packet with these streams is read at place q
pub record ReadsData (b : List ℕ) (q : ℕ) (flagged : Bool) (parts : List (List ℕ)) : Type 0 where
  pub sort : sort_at b q ≡ 1
  pub restart : restart_at b q ≡ flagged
  pub size : length_at b q ≡ whole_words (data_size parts)
  pub count : stream_count_at b q ≡ length parts
  pub sizes : lengths_at b (q + 6) (stream_count_at b q) ≡ lengths parts
  pub streams : streams_of b q ≡ parts

pub data_packet-read : (b : List ℕ) (q : ℕ) (restart : Bool) (streams : List (List ℕ)) → data_size streams ≤ 65536 → Stands b q (data_packet restart streams) → ReadsData b q restart streams
unfolding data_packet stream_lengths restart_at stream_count_at streams_of
data_packet-read b q restart streams fits stands =
    let size : data_size streams ≡ 6 + 2 * length streams + total streams = data_size_is streams in
    let padded : data_size streams ≤ whole_words (data_size streams) = le-whole_words (data_size streams) in
    let head = Stands-front b q (packet_head (data_head restart streams)) _ stands in
    let small : IsPacketHead (data_head restart streams) = record { sort = lit< tt; flags = flag-lt restart; some = omega arith; length = whole_words-le (data_size streams) fits } in
    let at_count = Stands-past b q 4 (packet_head (data_head restart streams)) _ (length-packet_head (data_head restart streams)) stands in
    let counted = Stands-front b (q + 4) (low_bytes 2 (length (lengths streams)) ++ flat_map (low_bytes 2) (lengths streams)) _ at_count in
    let at_lengths = Stands-past_number b (q + 4) 2 (length (lengths streams)) _ counted in
    let at_streams = Stands-past b (q + 4) (2 + 2 * length (lengths streams)) (low_bytes 2 (length (lengths streams)) ++ flat_map (low_bytes 2) (lengths streams)) _ (length-counted (lengths streams)) at_count in
    let many : length (lengths streams) ≡ length streams = length-map streams (λ (s : List ℕ). length s) in
    let count : number b (8 * q + 32) 16 ≡ length streams = Stands-number_first b (q + 4) 2 (length (lengths streams)) (8 * q + 32) 16 _ counted (omega arith) (omega arith) refl ∙ many in
    let place : q + 4 + 2 ≡ q + 6 = omega arith in
    let body : q + 4 + (2 + 2 * length (lengths streams)) ≡ q + 6 + 2 * length streams = omega arith in
    let sizes : lengths_at b (q + 6) (length streams) ≡ lengths streams = ap (lengths_at b (q + 6)) (sym many) ∙ lengths-read b (q + 6) (lengths streams) (lengths-below 16 streams (omega arith)) (subst (λ (p : ℕ). Stands b p (flat_map (low_bytes 2) (lengths streams))) place at_lengths) in
    let concatenated = subst (λ (p : ℕ). Stands b p (concat streams)) body (Stands-front b (q + 4 + (2 + 2 * length (lengths streams))) (concat streams) (padding (data_size streams)) at_streams) in
    let sort : sort_at b q ≡ 1 = packet_head-sort b q (data_head restart streams) small head in
    let flagged : number b (8 * q + 8) 8 ≡ flag restart = packet_head-flags b q (data_head restart streams) small head in
    record {
      sort = sort;
      restart = rw (sort, lowest_bit b (8 * q + 8), flagged) (flag-is restart);
      size = packet_head-length b q (data_head restart streams) small head;
      count = count;
      sizes = rw (count, sizes);
      streams = rw (count, sizes) (streams-read b (q + 6 + 2 * length streams) streams concatenated);
    }
  where
    flag-lt : (r : Bool) → flag r < 2 ^ 8
    flag-lt true = lit< tt
    flag-lt false = lit< tt

    flag-is : (r : Bool) → (flag r % 2 == 1) ≡ r
    flag-is true = refl
    flag-is false = refl

    length-counted : (ns : List ℕ) → length (low_bytes 2 (length ns) ++ flat_map (low_bytes 2) ns) ≡ 2 + 2 * length ns
    length-counted ns = length-stream_lengths ns

-- ---- index packets

pub length-entry_bytes : (e : Entry) → length (entry_bytes e) ≡ 16
unfolding entry_bytes
length-entry_bytes e = simp (length-append, length-low_bytes)

pub length-all_entries : (es : List Entry) → length (flat_map entry_bytes es) ≡ 16 * length es
length-all_entries [] = refl
length-all_entries (e ∷ es) = rw (length-append, length-entry_bytes, length-all_entries es) (omega arith)

pub length-index_head : (h : IndexHead) → length (index_head h) ≡ 12
unfolding index_head
length-index_head h = simp (length-append, length-low_bytes)

pub length-index_packet : (level : ℕ) (es : List Entry) → length (index_packet level es) ≡ index_size (length es)
unfolding index_packet
length-index_packet level es = rw (length-append, length-packet_head, length-append, length-index_head, length-all_entries) (omega arith)

-- the numbers have room in the entry
pub record IsEntry (e : Entry) : Type 0 where
  pub first : e.first < 2 ^ 64
  pub place : e.place < 2 ^ 64

pub entry-read : (b : List ℕ) (q : ℕ) (e : Entry) → IsEntry e → Stands b q (entry_bytes e) → entry_at b q ≡ e
unfolding entry_bytes entry_at
entry-read b q e small stands =
    let first : number b (8 * q) 64 ≡ e.first = Stands-number_first b q 8 e.first (8 * q) 64 _ stands small.first refl refl in
    let place : number b (8 * q + 64) 64 ≡ e.place = Stands-low_bytes b (q + 8) 8 e.place (8 * q + 64) 64 (Stands-past_number b q 8 e.first _ stands) small.place (omega arith) refl in
    rw (first, place) refl

pub entries-read : (b : List ℕ) (q : ℕ) (es : List Entry) → AllByRecursion IsEntry es → Stands b q (flat_map entry_bytes es) → entries_at b q (length es) ≡ es
unfolding entries_at
entries-read b q [] small stands = refl
entries-read b q (e ∷ es) small stands =
    let first : entry_at b q ≡ e = entry-read b q e small.0 (Stands-front b q (entry_bytes e) (flat_map entry_bytes es) stands) in
    let later = Stands-past b q 16 (entry_bytes e) (flat_map entry_bytes es) (length-entry_bytes e) stands in
    rw (first, entries-read b (q + 16) es small.1 later)

pub index_head-count : (b : List ℕ) (q : ℕ) (h : IndexHead) → h.entries < 2 ^ 16 → Stands b (q + 4) (index_head h) → entry_count_at b q ≡ h.entries
unfolding index_head entry_count_at
index_head-count b q h small stands = Stands-number_first b (q + 4) 2 h.entries (8 * q + 32) 16 _ stands small (omega arith) refl

pub index_head-level : (b : List ℕ) (q : ℕ) (h : IndexHead) → h.level < 2 ^ 8 → Stands b (q + 4) (index_head h) → level_at b q ≡ h.level
unfolding index_head level_at
index_head-level b q h small stands = Stands-number_first b (q + 4 + 2) 1 h.level (8 * q + 48) 8 _ (Stands-past_number b (q + 4) 2 h.entries _ stands) small (omega arith) refl

-- an index packet of this level and these entries is read at place q
pub record ReadsIndex (b : List ℕ) (q : ℕ) (height : ℕ) (es : List Entry) : Type 0 where
  pub sort : sort_at b q ≡ 0
  pub restart : restart_at b q ≡ false
  pub size : length_at b q ≡ index_size (length es)
  pub count : entry_count_at b q ≡ length es
  pub level : level_at b q ≡ height
  pub entries : entries_at b (q + 16) (entry_count_at b q) ≡ es

pub index_packet-read : (b : List ℕ) (q : ℕ) (level : ℕ) (es : List Entry) → level < 2 ^ 8 → index_size (length es) ≤ 65536 → AllByRecursion IsEntry es → Stands b q (index_packet level es) → ReadsIndex b q level es
unfolding index_packet restart_at
index_packet-read b q level es small fits room stands =
    let head = Stands-front b q (packet_head (record { sort = 0; flags = 0; length = index_size (length es) })) _ stands in
    let bounds : IsPacketHead (record { sort = 0; flags = 0; length = index_size (length es) }) = record { sort = lit< tt; flags = lit< tt; some = omega arith; length = fits } in
    let numbers = Stands-past b q 4 (packet_head (record { sort = 0; flags = 0; length = index_size (length es) })) _ (length-packet_head _) stands in
    let stated = Stands-front b (q + 4) (index_head (record { entries = length es; level = level })) _ numbers in
    let at_entries = Stands-past b (q + 4) 12 (index_head (record { entries = length es; level = level })) _ (length-index_head _) numbers in
    let place : q + 4 + 12 ≡ q + 16 = omega arith in
    let count : entry_count_at b q ≡ length es = index_head-count b q (record { entries = length es; level = level }) (omega arith) stated in
    let sort : sort_at b q ≡ 0 = packet_head-sort b q (record { sort = 0; flags = 0; length = index_size (length es) }) bounds head in
    record {
      sort = sort;
      restart = rw sort refl;
      size = packet_head-length b q (record { sort = 0; flags = 0; length = index_size (length es) }) bounds head;
      count = count;
      level = index_head-level b q (record { entries = length es; level = level }) small stated;
      entries = rw count (entries-read b (q + 16) es room (subst (λ (p : ℕ). Stands b p (flat_map entry_bytes es)) place at_entries));
    }

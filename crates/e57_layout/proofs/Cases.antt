-- Cases that compute: two small sections, byte by byte, with their packets, entries and items.
use Rattle.std.proofs.Common.{◌≡◌, ℕ, ◌+◌, true, false, List, [], ◌∷◌, ◌++◌, refl, map}
use Rattle.std.specs.Prelude.{pos, negsuc}
use Rattle.e57_bits.specs.Bits.{number, bit}
use Rattle.e57_layout.specs.declared.section.SectionHeader.{SectionHeader}
use Rattle.e57_layout.specs.declared.packet.Entry.{Entry}
use Rattle.e57_layout.specs.Bytes.{low_bytes, joined, packed}
use Rattle.e57_layout.specs.Headers.{section_head, section_head_at, blob_head_of, blob_head_at}
use Rattle.e57_layout.specs.Packets.{packet_head, whole_words, padding, data_size, stream_lengths, data_packet, sort_at, restart_at, length_at, stream_count_at, lengths_at, streams_at, streams_of}
use Rattle.e57_layout.specs.IndexPackets.{index_head, entry_bytes, index_packet, entry_count_at, level_at, entry_at, entries_at}
use Rattle.e57_layout.specs.Widths.{bit_length, width}
use Rattle.e57_layout.specs.Values.{ItemKind, integers, words, strings, Value, whole, word, octets, Outcome, here, short, over_limit, out_of_range}
use Rattle.e57_layout.specs.Strings.{first_prefix, first_string, string_at, string_length_at, string_prefix, string_bytes_of}
use Rattle.e57_layout.specs.Items.{bits_at, item_at, stored, octets_of, field_bytes}
use Rattle.e57_layout.specs.Packing.{first_records, later_records, cut_blocks, blocks, group_streams, join_streams, fits_packet, packets_of, chunk_groups, chunk_packets}
use Rattle.e57_layout.specs.Written.{physical, packet_bytes, flagged, chunk_spelled, chunks_spelled, chunk_entries, cut_runs, entry_runs, level_spelled, upper_entries, index_spelled, root_place, data_spelled, packets_spelled, section_spelled, blob_spelled}

-- ---- three records of four fields in one chunk; the section stands at logical place 1020

abbrev kinds : List ItemKind
kinds = integers (pos 0) (pos 7) ∷ integers (pos 5) (pos 5) ∷ words 32 ∷ strings ∷ []

abbrev columns : List (List Value)
columns =
    (whole (pos 1) ∷ whole (pos 6) ∷ whole (pos 7) ∷ [])
    ∷ (whole (pos 5) ∷ whole (pos 5) ∷ whole (pos 5) ∷ [])
    ∷ (word 0x3f800000 ∷ word 0x40000000 ∷ word 0 ∷ [])
    ∷ (octets [] ∷ octets (97 ∷ 98 ∷ 99 ∷ []) ∷ octets (113 ∷ []) ∷ [])
    ∷ []

abbrev streams : List (List ℕ)
streams = (241 ∷ 1 ∷ []) ∷ [] ∷ (0 ∷ 0 ∷ 128 ∷ 63 ∷ 0 ∷ 0 ∷ 0 ∷ 64 ∷ 0 ∷ 0 ∷ 0 ∷ 0 ∷ []) ∷ (0 ∷ 6 ∷ 97 ∷ 98 ∷ 99 ∷ 2 ∷ 113 ∷ []) ∷ []

abbrev header : SectionHeader
header = record { id = 1; length = 100; data_place = 1056; index = 1092 }

abbrev entries : List Entry
entries = record { first = 0; place = 1056 } ∷ []

abbrev header_piece : List ℕ
header_piece = 1 ∷ 0 ∷ 0 ∷ 0 ∷ 0 ∷ 0 ∷ 0 ∷ 0 ∷ 100 ∷ 0 ∷ 0 ∷ 0 ∷ 0 ∷ 0 ∷ 0 ∷ 0 ∷ 32 ∷ 4 ∷ 0 ∷ 0 ∷ 0 ∷ 0 ∷ 0 ∷ 0 ∷ 68 ∷ 4 ∷ 0 ∷ 0 ∷ 0 ∷ 0 ∷ 0 ∷ 0 ∷ []

abbrev data_piece : List ℕ
data_piece = 1 ∷ 1 ∷ 35 ∷ 0 ∷ 4 ∷ 0 ∷ 2 ∷ 0 ∷ 0 ∷ 0 ∷ 12 ∷ 0 ∷ 7 ∷ 0 ∷ 241 ∷ 1 ∷ 0 ∷ 0 ∷ 128 ∷ 63 ∷ 0 ∷ 0 ∷ 0 ∷ 64 ∷ 0 ∷ 0 ∷ 0 ∷ 0 ∷ 0 ∷ 6 ∷ 97 ∷ 98 ∷ 99 ∷ 2 ∷ 113 ∷ 0 ∷ []

abbrev index_piece : List ℕ
index_piece = 0 ∷ 0 ∷ 31 ∷ 0 ∷ 1 ∷ 0 ∷ 0 ∷ 0 ∷ 0 ∷ 0 ∷ 0 ∷ 0 ∷ 0 ∷ 0 ∷ 0 ∷ 0 ∷ 0 ∷ 0 ∷ 0 ∷ 0 ∷ 0 ∷ 0 ∷ 0 ∷ 0 ∷ 32 ∷ 4 ∷ 0 ∷ 0 ∷ 0 ∷ 0 ∷ 0 ∷ 0 ∷ []

abbrev section : List ℕ
section = header_piece ++ (data_piece ++ index_piece)

pieces-spelled :
    (section_head header ≡ header_piece)
    × (data_packet true streams ≡ data_piece)
    × (index_packet 0 entries ≡ index_piece)
unfolding low_bytes section_head packet_head whole_words padding data_size stream_lengths data_packet index_head entry_bytes index_packet
pieces-spelled = (refl, refl, refl)

pieces-read :
    (section_head_at section 0 ≡ header)
    × (sort_at section 32 ≡ 1)
    × (restart_at section 32 ≡ true)
    × (length_at section 32 ≡ 36)
    × (streams_of section 32 ≡ streams)
    × (sort_at section 68 ≡ 0)
    × (restart_at section 68 ≡ false)
    × (length_at section 68 ≡ 32)
    × (level_at section 68 ≡ 0)
    × (entries_at section (68 + 16) (entry_count_at section 68) ≡ entries)
unfolding bit number section_head_at sort_at restart_at length_at stream_count_at lengths_at streams_at streams_of entry_count_at level_at entry_at entries_at
pieces-read = (refl, refl, refl, refl, refl, refl, refl, refl, refl, refl)

-- the same section with any length of chunks
section-written :
    (chunk_packets kinds (record { count = 3; columns = columns }) ≡ streams ∷ [])
    × (section_spelled 1020 kinds 8 3 columns ≡ section)
    × (section_spelled 1020 kinds 1024 3 columns ≡ section)
    × (section_spelled 1020 kinds 1048576 3 columns ≡ section)
unfolding low_bytes section_head packet_head whole_words padding data_size stream_lengths data_packet index_head entry_bytes index_packet joined packed bit_length width string_prefix string_bytes_of stored octets_of field_bytes first_records later_records cut_blocks blocks group_streams join_streams fits_packet packets_of chunk_groups chunk_packets physical packet_bytes flagged chunk_spelled chunks_spelled chunk_entries cut_runs entry_runs level_spelled upper_entries index_spelled root_place data_spelled packets_spelled section_spelled
section-written = (refl, refl, refl, refl)

-- the first items of a stream, and how many
abbrev items : ItemKind → List ℕ → List ℕ → List Outcome
items kind stream ks = map (item_at kind stream) ks

items-read :
    (items (integers (pos 0) (pos 7)) (241 ∷ 1 ∷ []) (0 ∷ 1 ∷ 2 ∷ []) ≡ here (whole (pos 1)) ∷ here (whole (pos 6)) ∷ here (whole (pos 7)) ∷ [])
    × (items (integers (pos 5) (pos 5)) [] (0 ∷ 1 ∷ 2 ∷ []) ≡ here (whole (pos 5)) ∷ here (whole (pos 5)) ∷ here (whole (pos 5)) ∷ [])
    × (items (words 32) (0 ∷ 0 ∷ 128 ∷ 63 ∷ 0 ∷ 0 ∷ 0 ∷ 64 ∷ 0 ∷ 0 ∷ 0 ∷ 0 ∷ []) (0 ∷ 1 ∷ 2 ∷ []) ≡ here (word 0x3f800000) ∷ here (word 0x40000000) ∷ here (word 0) ∷ [])
    × (items strings (0 ∷ 6 ∷ 97 ∷ 98 ∷ 99 ∷ 2 ∷ 113 ∷ []) (0 ∷ 1 ∷ 2 ∷ []) ≡ here (octets []) ∷ here (octets (97 ∷ 98 ∷ 99 ∷ [])) ∷ here (octets (113 ∷ [])) ∷ [])
unfolding bit number bit_length width first_prefix first_string string_at string_length_at bits_at item_at
items-read = (refl, refl, refl, refl)

items-short :
    (item_at (integers (pos 0) (pos 7)) (241 ∷ 1 ∷ []) 5 ≡ short 5)
    × (item_at (words 32) (0 ∷ 0 ∷ 128 ∷ []) 0 ≡ short 0)
    × (item_at (words 64) [] 3 ≡ short 3)
unfolding bit number bit_length width first_prefix first_string string_at string_length_at bits_at item_at
items-short = (refl, refl, refl)

items-limits :
    (item_at (integers (negsuc 4) (negsuc 4)) [] 1000000 ≡ here (whole (negsuc 4)))
    × (item_at (integers (pos 0) (pos 4)) (5 ∷ []) 0 ≡ out_of_range 0)
    × (item_at (integers (negsuc 1) (pos 5)) (7 ∷ []) 0 ≡ here (whole (pos 5)))
unfolding bit number bit_length width first_prefix first_string string_at string_length_at bits_at item_at
items-limits = (refl, refl, refl)

-- ---- strings

-- a prefix of one byte, and of eight bytes
strings-read :
    (item_at strings (0 ∷ []) 0 ≡ here (octets []))
    × (item_at strings (6 ∷ 97 ∷ 98 ∷ 99 ∷ []) 0 ≡ here (octets (97 ∷ 98 ∷ 99 ∷ [])))
    × (item_at strings (7 ∷ 0 ∷ 0 ∷ 0 ∷ 0 ∷ 0 ∷ 0 ∷ 0 ∷ 97 ∷ 98 ∷ 99 ∷ []) 0 ≡ here (octets (97 ∷ 98 ∷ 99 ∷ [])))
unfolding bit number bit_length width first_prefix first_string string_at string_length_at bits_at item_at
strings-read = (refl, refl, refl)

-- a string of 2 ^ 24 bytes is within the limit, one byte more isn't; the item that has the fault is named
strings-faults :
    (item_at strings (0 ∷ 6 ∷ 97 ∷ 98 ∷ []) 1 ≡ short 1)
    × (item_at strings (0 ∷ 6 ∷ 97 ∷ 98 ∷ []) 4 ≡ short 1)
    × (item_at strings (7 ∷ 0 ∷ 0 ∷ 0 ∷ 0 ∷ 0 ∷ 0 ∷ []) 0 ≡ short 0)
    × (item_at strings (1 ∷ 0 ∷ 0 ∷ 2 ∷ 0 ∷ 0 ∷ 0 ∷ 0 ∷ []) 0 ≡ short 0)
    × (item_at strings (3 ∷ 0 ∷ 0 ∷ 2 ∷ 0 ∷ 0 ∷ 0 ∷ 0 ∷ []) 0 ≡ over_limit 0)
    × (item_at strings (0 ∷ 3 ∷ 0 ∷ 0 ∷ 2 ∷ 0 ∷ 0 ∷ 0 ∷ 0 ∷ []) 7 ≡ over_limit 1)
unfolding bit number bit_length width first_prefix first_string string_at string_length_at bits_at item_at
strings-faults = (refl, refl, refl, refl, refl, refl)

strings-lengths :
    (string_length_at 0 (6 ∷ []) 0 ≡ here (word 3))
    × (string_length_at 0 (6 ∷ []) 1 ≡ short 0)
    × (string_length_at 0 (0 ∷ 1 ∷ 0 ∷ 0 ∷ 2 ∷ 0 ∷ 0 ∷ 0 ∷ 0 ∷ []) 1 ≡ here (word 16777216))
unfolding bit number bit_length width first_prefix first_string string_at string_length_at bits_at item_at
strings-lengths = (refl, refl, refl)

strings-prefixes :
    (string_prefix 0 ≡ 0 ∷ [])
    × (string_prefix 127 ≡ 254 ∷ [])
    × (string_prefix 128 ≡ 1 ∷ 1 ∷ 0 ∷ 0 ∷ 0 ∷ 0 ∷ 0 ∷ 0 ∷ [])
unfolding low_bytes string_prefix
strings-prefixes = (refl, refl, refl)

-- ---- widths

widths :
    (width (pos 0) (pos 0) ≡ 0)
    × (width (pos 0) (pos 1) ≡ 1)
    × (width (pos 0) (pos 255) ≡ 8)
    × (width (pos 0) (pos 256) ≡ 9)
    × (width (pos 1) (pos 9223372036854775807) ≡ 63)
    × (width (negsuc 9223372036854775807) (negsuc 0) ≡ 63)
    × (width (negsuc 9223372036854775807) (pos 9223372036854775807) ≡ 64)
unfolding bit_length width
widths = (refl, refl, refl, refl, refl, refl, refl)

-- ---- thirteen records of one field in two chunks; the section stands at logical place 48

abbrev second : List ℕ
second = 1 ∷ 0 ∷ 0 ∷ 0 ∷ 0 ∷ 0 ∷ 0 ∷ 0 ∷ 104 ∷ 0 ∷ 0 ∷ 0 ∷ 0 ∷ 0 ∷ 0 ∷ 0 ∷ 80 ∷ 0 ∷ 0 ∷ 0 ∷ 0 ∷ 0 ∷ 0 ∷ 0 ∷ 104 ∷ 0 ∷ 0 ∷ 0 ∷ 0 ∷ 0 ∷ 0 ∷ 0 ∷ 1 ∷ 1 ∷ 11 ∷ 0 ∷ 1 ∷ 0 ∷ 1 ∷ 0 ∷ 21 ∷ 0 ∷ 0 ∷ 0 ∷ 1 ∷ 1 ∷ 11 ∷ 0 ∷ 1 ∷ 0 ∷ 1 ∷ 0 ∷ 240 ∷ 0 ∷ 0 ∷ 0 ∷ 0 ∷ 0 ∷ 47 ∷ 0 ∷ 2 ∷ 0 ∷ 0 ∷ 0 ∷ 0 ∷ 0 ∷ 0 ∷ 0 ∷ 0 ∷ 0 ∷ 0 ∷ 0 ∷ 0 ∷ 0 ∷ 0 ∷ 0 ∷ 0 ∷ 0 ∷ 0 ∷ 0 ∷ 80 ∷ 0 ∷ 0 ∷ 0 ∷ 0 ∷ 0 ∷ 0 ∷ 0 ∷ 5 ∷ 0 ∷ 0 ∷ 0 ∷ 0 ∷ 0 ∷ 0 ∷ 0 ∷ 92 ∷ 0 ∷ 0 ∷ 0 ∷ 0 ∷ 0 ∷ 0 ∷ 0 ∷ []

abbrev second_header : SectionHeader
second_header = record { id = 1; length = 104; data_place = 80; index = 104 }

abbrev second_entries : List Entry
second_entries = record { first = 0; place = 80 } ∷ record { first = 5; place = 92 } ∷ []

second-spelled : section_head second_header ++ (data_packet true ((21 ∷ []) ∷ []) ++ (data_packet true ((240 ∷ []) ∷ []) ++ index_packet 0 second_entries)) ≡ second
unfolding low_bytes section_head packet_head whole_words padding data_size stream_lengths data_packet index_head entry_bytes index_packet
second-spelled = refl

second-read :
    (section_head_at second 0 ≡ second_header)
    × (streams_of second 32 ≡ (21 ∷ []) ∷ [])
    × (streams_of second 44 ≡ (240 ∷ []) ∷ [])
    × (restart_at second 44 ≡ true)
    × (length_at second 44 ≡ 12)
    × (entries_at second (56 + 16) (entry_count_at second 56) ≡ second_entries)
unfolding bit number section_head_at sort_at restart_at length_at stream_count_at lengths_at streams_at streams_of entry_count_at level_at entry_at entries_at
second-read = (refl, refl, refl, refl, refl, refl)

second-items :
    (items (integers (pos 0) (pos 1)) (21 ∷ []) (0 ∷ 1 ∷ 2 ∷ 3 ∷ 4 ∷ []) ≡ here (whole (pos 1)) ∷ here (whole (pos 0)) ∷ here (whole (pos 1)) ∷ here (whole (pos 0)) ∷ here (whole (pos 1)) ∷ [])
    × (items (integers (pos 0) (pos 1)) (240 ∷ []) (0 ∷ 1 ∷ 2 ∷ 3 ∷ 4 ∷ 5 ∷ 6 ∷ 7 ∷ 8 ∷ []) ≡ here (whole (pos 0)) ∷ here (whole (pos 0)) ∷ here (whole (pos 0)) ∷ here (whole (pos 0)) ∷ here (whole (pos 1)) ∷ here (whole (pos 1)) ∷ here (whole (pos 1)) ∷ here (whole (pos 1)) ∷ short 8 ∷ [])
unfolding bit number bit_length width first_prefix first_string string_at string_length_at bits_at item_at
second-items = (refl, refl)

abbrev second_columns : List (List Value)
second_columns = map (λ (z : ℕ). whole (pos z)) (1 ∷ 0 ∷ 1 ∷ 0 ∷ 1 ∷ 0 ∷ 0 ∷ 0 ∷ 0 ∷ 1 ∷ 1 ∷ 1 ∷ 1 ∷ []) ∷ []

abbrev in_one : List ℕ
in_one = 1 ∷ 0 ∷ 0 ∷ 0 ∷ 0 ∷ 0 ∷ 0 ∷ 0 ∷ 76 ∷ 0 ∷ 0 ∷ 0 ∷ 0 ∷ 0 ∷ 0 ∷ 0 ∷ 32 ∷ 4 ∷ 0 ∷ 0 ∷ 0 ∷ 0 ∷ 0 ∷ 0 ∷ 44 ∷ 4 ∷ 0 ∷ 0 ∷ 0 ∷ 0 ∷ 0 ∷ 0 ∷ 1 ∷ 1 ∷ 11 ∷ 0 ∷ 1 ∷ 0 ∷ 2 ∷ 0 ∷ 21 ∷ 30 ∷ 0 ∷ 0 ∷ 0 ∷ 0 ∷ 31 ∷ 0 ∷ 1 ∷ 0 ∷ 0 ∷ 0 ∷ 0 ∷ 0 ∷ 0 ∷ 0 ∷ 0 ∷ 0 ∷ 0 ∷ 0 ∷ 0 ∷ 0 ∷ 0 ∷ 0 ∷ 0 ∷ 0 ∷ 0 ∷ 0 ∷ 32 ∷ 4 ∷ 0 ∷ 0 ∷ 0 ∷ 0 ∷ 0 ∷ 0 ∷ []

abbrev in_two : List ℕ
in_two = 1 ∷ 0 ∷ 0 ∷ 0 ∷ 0 ∷ 0 ∷ 0 ∷ 0 ∷ 104 ∷ 0 ∷ 0 ∷ 0 ∷ 0 ∷ 0 ∷ 0 ∷ 0 ∷ 32 ∷ 4 ∷ 0 ∷ 0 ∷ 0 ∷ 0 ∷ 0 ∷ 0 ∷ 56 ∷ 4 ∷ 0 ∷ 0 ∷ 0 ∷ 0 ∷ 0 ∷ 0 ∷ 1 ∷ 1 ∷ 11 ∷ 0 ∷ 1 ∷ 0 ∷ 1 ∷ 0 ∷ 21 ∷ 0 ∷ 0 ∷ 0 ∷ 1 ∷ 1 ∷ 11 ∷ 0 ∷ 1 ∷ 0 ∷ 1 ∷ 0 ∷ 30 ∷ 0 ∷ 0 ∷ 0 ∷ 0 ∷ 0 ∷ 47 ∷ 0 ∷ 2 ∷ 0 ∷ 0 ∷ 0 ∷ 0 ∷ 0 ∷ 0 ∷ 0 ∷ 0 ∷ 0 ∷ 0 ∷ 0 ∷ 0 ∷ 0 ∷ 0 ∷ 0 ∷ 0 ∷ 0 ∷ 0 ∷ 0 ∷ 32 ∷ 4 ∷ 0 ∷ 0 ∷ 0 ∷ 0 ∷ 0 ∷ 0 ∷ 8 ∷ 0 ∷ 0 ∷ 0 ∷ 0 ∷ 0 ∷ 0 ∷ 0 ∷ 44 ∷ 4 ∷ 0 ∷ 0 ∷ 0 ∷ 0 ∷ 0 ∷ 0 ∷ []

-- its records as we write them, from place 1020 on: in one chunk of two groups, and in chunks of 8
second-written :
    (section_spelled 1020 (integers (pos 0) (pos 1) ∷ []) 16 13 second_columns ≡ in_one)
    × (section_spelled 1020 (integers (pos 0) (pos 1) ∷ []) 8 13 second_columns ≡ in_two)
unfolding low_bytes section_head packet_head whole_words padding data_size stream_lengths data_packet index_head entry_bytes index_packet joined packed bit_length width string_prefix string_bytes_of stored octets_of field_bytes first_records later_records cut_blocks blocks group_streams join_streams fits_packet packets_of chunk_groups chunk_packets physical packet_bytes flagged chunk_spelled chunks_spelled chunk_entries cut_runs entry_runs level_spelled upper_entries index_spelled root_place data_spelled packets_spelled section_spelled
second-written = (refl, refl)

-- ---- a blob of three bytes

blob-spelled :
    (blob_spelled (7 ∷ 8 ∷ 9 ∷ []) ≡ 0 ∷ 0 ∷ 0 ∷ 0 ∷ 0 ∷ 0 ∷ 0 ∷ 0 ∷ 20 ∷ 0 ∷ 0 ∷ 0 ∷ 0 ∷ 0 ∷ 0 ∷ 0 ∷ 7 ∷ 8 ∷ 9 ∷ [])
    × (blob_head_at (blob_spelled (7 ∷ 8 ∷ 9 ∷ [])) 0 ≡ record { id = 0; length = 20 })
unfolding low_bytes blob_head_of whole_words blob_spelled bit number blob_head_at
blob-spelled = (refl, refl)

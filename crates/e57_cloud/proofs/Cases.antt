-- Cases that compute: small sections, whole and with a changed byte, in pages whose words are right.
use Rattle.std.proofs.Common.{◌≡◌, ℕ, List, [], ◌∷◌, ◌++◌, refl}
use Rattle.std.specs.Prelude.{pos, replicate, Some, None, Ok, Err}
use Rattle.e57_bits.specs.Bits.{number, bit}
use Rattle.e57_base.specs.declared.kind.Kind.TheVariants.{SectionPlace, SectionId, DataPlace, PacketLength, PacketType, DataShape, IndexShape, IndexOrder, IndexTarget, RestartUnindexed, StreamShort, ValueRange, StringLimit}
use Rattle.e57_base.specs.Fault.{fault}
use Rattle.e57_page.specs.File.{logical, page_fault, pages_fault}
use Rattle.e57_layout.specs.Headers.{section_head_at}
use Rattle.e57_layout.specs.Packets.{sort_at, restart_at, length_at, stream_count_at, lengths_at, streams_at, streams_of}
use Rattle.e57_layout.specs.IndexPackets.{entry_count_at, level_at, entry_at, entries_at}
use Rattle.e57_layout.specs.Widths.{bit_length, width}
use Rattle.e57_layout.specs.Values.{integers, words, strings, whole, word}
use Rattle.e57_layout.specs.Strings.{first_prefix, first_string, string_at}
use Rattle.e57_layout.specs.Items.{bits_at, item_at}
use Rattle.e57_cloud.specs.Section.{section_header_fault, section_fault, section_at}
use Rattle.e57_cloud.specs.Walk.{packet_at, packet_head_fault, is_misshapen_data, packet_fault, walk, walk_from}
use Rattle.e57_cloud.specs.Index.{entries_of, is_misshapen_index, rises, begins_and_rises, index_shape_fault, index_packet_fault, target_fault, each_fault, entry_fault, entries_below, root_level, root_fault, index_fault, entries}
use Rattle.e57_cloud.specs.Chunks.{data_packets, stream_of, cut, by_chunk, packets_by_chunk, starts_fault, restarts_fault, counted, with_records, chunk_firsts, chunks, chunks_fault}
use Rattle.e57_cloud.specs.Cloud.{Leaf, Cloud, float_from, items_fault, items_from, field_fault, column_of, fields_fault, columns_of, body_fault, cloud_fault, records_of}
use Rattle.e57_cloud.specs.PathItem.{pick, descend, path, stretch, cover, chunk_at, item_in, item_of, path_item}

-- ---- a section of two chunks in a file of one page

abbrev v_leaf : Leaf
v_leaf = record { node = 3; kind = integers (pos 0) (pos 1) }

abbrev v_cloud : ℕ → Cloud
v_cloud count = record { node = 1; offset = 48; count = count; leaves = v_leaf ∷ [] }

abbrev string_leaf : Leaf
string_leaf = record { node = 3; kind = strings }

abbrev string_cloud : Cloud
string_cloud = record { node = 1; offset = 48; count = 1; leaves = string_leaf ∷ [] }

abbrev constant_leaf : Leaf
constant_leaf = record { node = 3; kind = integers (pos 5) (pos 5) }

abbrev constant_cloud : Cloud
constant_cloud = record { node = 1; offset = 48; count = 1099511627776; leaves = constant_leaf ∷ [] }

abbrev v_start : List ℕ
v_start = 65 ∷ 83 ∷ 84 ∷ 77 ∷ 45 ∷ 69 ∷ 53 ∷ 55 ∷ 1 ∷ 0 ∷ 0 ∷ 0 ∷ 0 ∷ 0 ∷ 0 ∷ 0 ∷ 0 ∷ 4 ∷ 0 ∷ 0 ∷ 0 ∷ 0 ∷ 0 ∷ 0 ∷ 152 ∷ 0 ∷ 0 ∷ 0 ∷ 0 ∷ 0 ∷ 0 ∷ 0 ∷ 183 ∷ 0 ∷ 0 ∷ 0 ∷ 0 ∷ 0 ∷ 0 ∷ 0 ∷ 0 ∷ 4 ∷ 0 ∷ 0 ∷ 0 ∷ 0 ∷ 0 ∷ 0 ∷ []

abbrev v_text : List ℕ
v_text = 60 ∷ 101 ∷ 53 ∷ 55 ∷ 82 ∷ 111 ∷ 111 ∷ 116 ∷ 32 ∷ 116 ∷ 121 ∷ 112 ∷ 101 ∷ 61 ∷ 34 ∷ 83 ∷ 116 ∷ 114 ∷ 117 ∷ 99 ∷ 116 ∷ 117 ∷ 114 ∷ 101 ∷ 34 ∷ 62 ∷ 60 ∷ 112 ∷ 32 ∷ 116 ∷ 121 ∷ 112 ∷ 101 ∷ 61 ∷ 34 ∷ 67 ∷ 111 ∷ 109 ∷ 112 ∷ 114 ∷ 101 ∷ 115 ∷ 115 ∷ 101 ∷ 100 ∷ 86 ∷ 101 ∷ 99 ∷ 116 ∷ 111 ∷ 114 ∷ 34 ∷ 32 ∷ 102 ∷ 105 ∷ 108 ∷ 101 ∷ 79 ∷ 102 ∷ 102 ∷ 115 ∷ 101 ∷ 116 ∷ 61 ∷ 34 ∷ 52 ∷ 56 ∷ 34 ∷ 32 ∷ 114 ∷ 101 ∷ 99 ∷ 111 ∷ 114 ∷ 100 ∷ 67 ∷ 111 ∷ 117 ∷ 110 ∷ 116 ∷ 61 ∷ 34 ∷ 49 ∷ 51 ∷ 34 ∷ 62 ∷ 60 ∷ 112 ∷ 114 ∷ 111 ∷ 116 ∷ 111 ∷ 116 ∷ 121 ∷ 112 ∷ 101 ∷ 32 ∷ 116 ∷ 121 ∷ 112 ∷ 101 ∷ 61 ∷ 34 ∷ 83 ∷ 116 ∷ 114 ∷ 117 ∷ 99 ∷ 116 ∷ 117 ∷ 114 ∷ 101 ∷ 34 ∷ 62 ∷ 60 ∷ 120 ∷ 32 ∷ 116 ∷ 121 ∷ 112 ∷ 101 ∷ 61 ∷ 34 ∷ 73 ∷ 110 ∷ 116 ∷ 101 ∷ 103 ∷ 101 ∷ 114 ∷ 34 ∷ 32 ∷ 109 ∷ 105 ∷ 110 ∷ 105 ∷ 109 ∷ 117 ∷ 109 ∷ 61 ∷ 34 ∷ 48 ∷ 34 ∷ 32 ∷ 109 ∷ 97 ∷ 120 ∷ 105 ∷ 109 ∷ 117 ∷ 109 ∷ 61 ∷ 34 ∷ 49 ∷ 34 ∷ 47 ∷ 62 ∷ 60 ∷ 47 ∷ 112 ∷ 114 ∷ 111 ∷ 116 ∷ 111 ∷ 116 ∷ 121 ∷ 112 ∷ 101 ∷ 62 ∷ 60 ∷ 47 ∷ 112 ∷ 62 ∷ 60 ∷ 47 ∷ 101 ∷ 53 ∷ 55 ∷ 82 ∷ 111 ∷ 111 ∷ 116 ∷ 62 ∷ []

-- the file up to its page's zeros, the section's header and packets cut in
abbrev v_page : List ℕ → List ℕ → List ℕ → List ℕ
v_page header packets checksum = v_start ++ (header ++ (packets ++ (v_text ++ (replicate 685 0 ++ checksum))))

abbrev v : List ℕ
v = v_page (1 ∷ 0 ∷ 0 ∷ 0 ∷ 0 ∷ 0 ∷ 0 ∷ 0 ∷ 104 ∷ 0 ∷ 0 ∷ 0 ∷ 0 ∷ 0 ∷ 0 ∷ 0 ∷ 80 ∷ 0 ∷ 0 ∷ 0 ∷ 0 ∷ 0 ∷ 0 ∷ 0 ∷ 104 ∷ 0 ∷ 0 ∷ 0 ∷ 0 ∷ 0 ∷ 0 ∷ 0 ∷ []) (1 ∷ 1 ∷ 11 ∷ 0 ∷ 1 ∷ 0 ∷ 1 ∷ 0 ∷ 21 ∷ 0 ∷ 0 ∷ 0 ∷ 1 ∷ 1 ∷ 11 ∷ 0 ∷ 1 ∷ 0 ∷ 1 ∷ 0 ∷ 240 ∷ 0 ∷ 0 ∷ 0 ∷ 0 ∷ 0 ∷ 47 ∷ 0 ∷ 2 ∷ 0 ∷ 0 ∷ 0 ∷ 0 ∷ 0 ∷ 0 ∷ 0 ∷ 0 ∷ 0 ∷ 0 ∷ 0 ∷ 0 ∷ 0 ∷ 0 ∷ 0 ∷ 0 ∷ 0 ∷ 0 ∷ 0 ∷ 80 ∷ 0 ∷ 0 ∷ 0 ∷ 0 ∷ 0 ∷ 0 ∷ 0 ∷ 5 ∷ 0 ∷ 0 ∷ 0 ∷ 0 ∷ 0 ∷ 0 ∷ 0 ∷ 92 ∷ 0 ∷ 0 ∷ 0 ∷ 0 ∷ 0 ∷ 0 ∷ 0 ∷ []) (75 ∷ 103 ∷ 114 ∷ 43 ∷ [])

v-fault : page_fault v 0 ≡ None → cloud_fault v (v_cloud 13) ≡ None
unfolding bit number logical pages_fault section_head_at section_header_fault section_fault section_at sort_at restart_at length_at stream_count_at lengths_at streams_at streams_of packet_at packet_head_fault is_misshapen_data packet_fault walk walk_from entry_count_at level_at entry_at entries_at entries_of is_misshapen_index rises begins_and_rises index_shape_fault index_packet_fault target_fault each_fault entry_fault entries_below root_level root_fault index_fault entries data_packets stream_of cut by_chunk packets_by_chunk starts_fault restarts_fault counted with_records chunk_firsts chunks chunks_fault bit_length width bits_at item_at first_prefix first_string string_at float_from items_fault items_from field_fault column_of fields_fault columns_of body_fault cloud_fault records_of pick descend path stretch cover chunk_at item_in item_of path_item
v-fault right = rw right refl

v-short : page_fault v 0 ≡ None → cloud_fault v (v_cloud 14) ≡ Some (fault StreamShort 13 3)
unfolding bit number logical pages_fault section_head_at section_header_fault section_fault section_at sort_at restart_at length_at stream_count_at lengths_at streams_at streams_of packet_at packet_head_fault is_misshapen_data packet_fault walk walk_from entry_count_at level_at entry_at entries_at entries_of is_misshapen_index rises begins_and_rises index_shape_fault index_packet_fault target_fault each_fault entry_fault entries_below root_level root_fault index_fault entries data_packets stream_of cut by_chunk packets_by_chunk starts_fault restarts_fault counted with_records chunk_firsts chunks chunks_fault bit_length width bits_at item_at first_prefix first_string string_at float_from items_fault items_from field_fault column_of fields_fault columns_of body_fault cloud_fault records_of pick descend path stretch cover chunk_at item_in item_of path_item
v-short right = rw right refl

abbrev unindexed : List ℕ
unindexed = v_page (1 ∷ 0 ∷ 0 ∷ 0 ∷ 0 ∷ 0 ∷ 0 ∷ 0 ∷ 104 ∷ 0 ∷ 0 ∷ 0 ∷ 0 ∷ 0 ∷ 0 ∷ 0 ∷ 80 ∷ 0 ∷ 0 ∷ 0 ∷ 0 ∷ 0 ∷ 0 ∷ 0 ∷ 0 ∷ 0 ∷ 0 ∷ 0 ∷ 0 ∷ 0 ∷ 0 ∷ 0 ∷ []) (1 ∷ 1 ∷ 11 ∷ 0 ∷ 1 ∷ 0 ∷ 1 ∷ 0 ∷ 21 ∷ 0 ∷ 0 ∷ 0 ∷ 1 ∷ 1 ∷ 11 ∷ 0 ∷ 1 ∷ 0 ∷ 1 ∷ 0 ∷ 240 ∷ 0 ∷ 0 ∷ 0 ∷ 0 ∷ 0 ∷ 47 ∷ 0 ∷ 2 ∷ 0 ∷ 0 ∷ 0 ∷ 0 ∷ 0 ∷ 0 ∷ 0 ∷ 0 ∷ 0 ∷ 0 ∷ 0 ∷ 0 ∷ 0 ∷ 0 ∷ 0 ∷ 0 ∷ 0 ∷ 0 ∷ 0 ∷ 80 ∷ 0 ∷ 0 ∷ 0 ∷ 0 ∷ 0 ∷ 0 ∷ 0 ∷ 5 ∷ 0 ∷ 0 ∷ 0 ∷ 0 ∷ 0 ∷ 0 ∷ 0 ∷ 92 ∷ 0 ∷ 0 ∷ 0 ∷ 0 ∷ 0 ∷ 0 ∷ 0 ∷ []) (135 ∷ 234 ∷ 82 ∷ 235 ∷ [])

unindexed-fault : page_fault unindexed 0 ≡ None → cloud_fault unindexed (v_cloud 13) ≡ Some (fault RestartUnindexed 1 92)
unfolding bit number logical pages_fault section_head_at section_header_fault section_fault section_at sort_at restart_at length_at stream_count_at lengths_at streams_at streams_of packet_at packet_head_fault is_misshapen_data packet_fault walk walk_from entry_count_at level_at entry_at entries_at entries_of is_misshapen_index rises begins_and_rises index_shape_fault index_packet_fault target_fault each_fault entry_fault entries_below root_level root_fault index_fault entries data_packets stream_of cut by_chunk packets_by_chunk starts_fault restarts_fault counted with_records chunk_firsts chunks chunks_fault bit_length width bits_at item_at first_prefix first_string string_at float_from items_fault items_from field_fault column_of fields_fault columns_of body_fault cloud_fault records_of pick descend path stretch cover chunk_at item_in item_of path_item
unindexed-fault right = rw right refl

abbrev entry_gone : List ℕ
entry_gone = v_page (1 ∷ 0 ∷ 0 ∷ 0 ∷ 0 ∷ 0 ∷ 0 ∷ 0 ∷ 104 ∷ 0 ∷ 0 ∷ 0 ∷ 0 ∷ 0 ∷ 0 ∷ 0 ∷ 80 ∷ 0 ∷ 0 ∷ 0 ∷ 0 ∷ 0 ∷ 0 ∷ 0 ∷ 104 ∷ 0 ∷ 0 ∷ 0 ∷ 0 ∷ 0 ∷ 0 ∷ 0 ∷ []) (1 ∷ 1 ∷ 11 ∷ 0 ∷ 1 ∷ 0 ∷ 1 ∷ 0 ∷ 21 ∷ 0 ∷ 0 ∷ 0 ∷ 1 ∷ 1 ∷ 11 ∷ 0 ∷ 1 ∷ 0 ∷ 1 ∷ 0 ∷ 240 ∷ 0 ∷ 0 ∷ 0 ∷ 0 ∷ 0 ∷ 47 ∷ 0 ∷ 1 ∷ 0 ∷ 0 ∷ 0 ∷ 0 ∷ 0 ∷ 0 ∷ 0 ∷ 0 ∷ 0 ∷ 0 ∷ 0 ∷ 0 ∷ 0 ∷ 0 ∷ 0 ∷ 0 ∷ 0 ∷ 0 ∷ 0 ∷ 80 ∷ 0 ∷ 0 ∷ 0 ∷ 0 ∷ 0 ∷ 0 ∷ 0 ∷ 5 ∷ 0 ∷ 0 ∷ 0 ∷ 0 ∷ 0 ∷ 0 ∷ 0 ∷ 92 ∷ 0 ∷ 0 ∷ 0 ∷ 0 ∷ 0 ∷ 0 ∷ 0 ∷ []) (40 ∷ 178 ∷ 26 ∷ 17 ∷ [])

entry_gone-fault : page_fault entry_gone 0 ≡ None → cloud_fault entry_gone (v_cloud 13) ≡ Some (fault RestartUnindexed 1 92)
unfolding bit number logical pages_fault section_head_at section_header_fault section_fault section_at sort_at restart_at length_at stream_count_at lengths_at streams_at streams_of packet_at packet_head_fault is_misshapen_data packet_fault walk walk_from entry_count_at level_at entry_at entries_at entries_of is_misshapen_index rises begins_and_rises index_shape_fault index_packet_fault target_fault each_fault entry_fault entries_below root_level root_fault index_fault entries data_packets stream_of cut by_chunk packets_by_chunk starts_fault restarts_fault counted with_records chunk_firsts chunks chunks_fault bit_length width bits_at item_at first_prefix first_string string_at float_from items_fault items_from field_fault column_of fields_fault columns_of body_fault cloud_fault records_of pick descend path stretch cover chunk_at item_in item_of path_item
entry_gone-fault right = rw right refl

abbrev length_31 : List ℕ
length_31 = v_page (1 ∷ 0 ∷ 0 ∷ 0 ∷ 0 ∷ 0 ∷ 0 ∷ 0 ∷ 31 ∷ 0 ∷ 0 ∷ 0 ∷ 0 ∷ 0 ∷ 0 ∷ 0 ∷ 80 ∷ 0 ∷ 0 ∷ 0 ∷ 0 ∷ 0 ∷ 0 ∷ 0 ∷ 104 ∷ 0 ∷ 0 ∷ 0 ∷ 0 ∷ 0 ∷ 0 ∷ 0 ∷ []) (1 ∷ 1 ∷ 11 ∷ 0 ∷ 1 ∷ 0 ∷ 1 ∷ 0 ∷ 21 ∷ 0 ∷ 0 ∷ 0 ∷ 1 ∷ 1 ∷ 11 ∷ 0 ∷ 1 ∷ 0 ∷ 1 ∷ 0 ∷ 240 ∷ 0 ∷ 0 ∷ 0 ∷ 0 ∷ 0 ∷ 47 ∷ 0 ∷ 2 ∷ 0 ∷ 0 ∷ 0 ∷ 0 ∷ 0 ∷ 0 ∷ 0 ∷ 0 ∷ 0 ∷ 0 ∷ 0 ∷ 0 ∷ 0 ∷ 0 ∷ 0 ∷ 0 ∷ 0 ∷ 0 ∷ 0 ∷ 80 ∷ 0 ∷ 0 ∷ 0 ∷ 0 ∷ 0 ∷ 0 ∷ 0 ∷ 5 ∷ 0 ∷ 0 ∷ 0 ∷ 0 ∷ 0 ∷ 0 ∷ 0 ∷ 92 ∷ 0 ∷ 0 ∷ 0 ∷ 0 ∷ 0 ∷ 0 ∷ 0 ∷ []) (137 ∷ 88 ∷ 204 ∷ 7 ∷ [])

length_31-fault : page_fault length_31 0 ≡ None → cloud_fault length_31 (v_cloud 13) ≡ Some (fault SectionPlace 1 48)
unfolding bit number logical pages_fault section_head_at section_header_fault section_fault section_at sort_at restart_at length_at stream_count_at lengths_at streams_at streams_of packet_at packet_head_fault is_misshapen_data packet_fault walk walk_from entry_count_at level_at entry_at entries_at entries_of is_misshapen_index rises begins_and_rises index_shape_fault index_packet_fault target_fault each_fault entry_fault entries_below root_level root_fault index_fault entries data_packets stream_of cut by_chunk packets_by_chunk starts_fault restarts_fault counted with_records chunk_firsts chunks chunks_fault bit_length width bits_at item_at first_prefix first_string string_at float_from items_fault items_from field_fault column_of fields_fault columns_of body_fault cloud_fault records_of pick descend path stretch cover chunk_at item_in item_of path_item
length_31-fault right = rw right refl

abbrev data_79 : List ℕ
data_79 = v_page (1 ∷ 0 ∷ 0 ∷ 0 ∷ 0 ∷ 0 ∷ 0 ∷ 0 ∷ 104 ∷ 0 ∷ 0 ∷ 0 ∷ 0 ∷ 0 ∷ 0 ∷ 0 ∷ 79 ∷ 0 ∷ 0 ∷ 0 ∷ 0 ∷ 0 ∷ 0 ∷ 0 ∷ 104 ∷ 0 ∷ 0 ∷ 0 ∷ 0 ∷ 0 ∷ 0 ∷ 0 ∷ []) (1 ∷ 1 ∷ 11 ∷ 0 ∷ 1 ∷ 0 ∷ 1 ∷ 0 ∷ 21 ∷ 0 ∷ 0 ∷ 0 ∷ 1 ∷ 1 ∷ 11 ∷ 0 ∷ 1 ∷ 0 ∷ 1 ∷ 0 ∷ 240 ∷ 0 ∷ 0 ∷ 0 ∷ 0 ∷ 0 ∷ 47 ∷ 0 ∷ 2 ∷ 0 ∷ 0 ∷ 0 ∷ 0 ∷ 0 ∷ 0 ∷ 0 ∷ 0 ∷ 0 ∷ 0 ∷ 0 ∷ 0 ∷ 0 ∷ 0 ∷ 0 ∷ 0 ∷ 0 ∷ 0 ∷ 0 ∷ 80 ∷ 0 ∷ 0 ∷ 0 ∷ 0 ∷ 0 ∷ 0 ∷ 0 ∷ 5 ∷ 0 ∷ 0 ∷ 0 ∷ 0 ∷ 0 ∷ 0 ∷ 0 ∷ 92 ∷ 0 ∷ 0 ∷ 0 ∷ 0 ∷ 0 ∷ 0 ∷ 0 ∷ []) (68 ∷ 237 ∷ 91 ∷ 167 ∷ [])

data_79-fault : page_fault data_79 0 ≡ None → cloud_fault data_79 (v_cloud 13) ≡ Some (fault DataPlace 1 79)
unfolding bit number logical pages_fault section_head_at section_header_fault section_fault section_at sort_at restart_at length_at stream_count_at lengths_at streams_at streams_of packet_at packet_head_fault is_misshapen_data packet_fault walk walk_from entry_count_at level_at entry_at entries_at entries_of is_misshapen_index rises begins_and_rises index_shape_fault index_packet_fault target_fault each_fault entry_fault entries_below root_level root_fault index_fault entries data_packets stream_of cut by_chunk packets_by_chunk starts_fault restarts_fault counted with_records chunk_firsts chunks chunks_fault bit_length width bits_at item_at first_prefix first_string string_at float_from items_fault items_from field_fault column_of fields_fault columns_of body_fault cloud_fault records_of pick descend path stretch cover chunk_at item_in item_of path_item
data_79-fault right = rw right refl

abbrev type_3 : List ℕ
type_3 = v_page (1 ∷ 0 ∷ 0 ∷ 0 ∷ 0 ∷ 0 ∷ 0 ∷ 0 ∷ 104 ∷ 0 ∷ 0 ∷ 0 ∷ 0 ∷ 0 ∷ 0 ∷ 0 ∷ 80 ∷ 0 ∷ 0 ∷ 0 ∷ 0 ∷ 0 ∷ 0 ∷ 0 ∷ 0 ∷ 0 ∷ 0 ∷ 0 ∷ 0 ∷ 0 ∷ 0 ∷ 0 ∷ []) (1 ∷ 1 ∷ 11 ∷ 0 ∷ 1 ∷ 0 ∷ 1 ∷ 0 ∷ 21 ∷ 0 ∷ 0 ∷ 0 ∷ 3 ∷ 1 ∷ 11 ∷ 0 ∷ 1 ∷ 0 ∷ 1 ∷ 0 ∷ 240 ∷ 0 ∷ 0 ∷ 0 ∷ 0 ∷ 0 ∷ 47 ∷ 0 ∷ 2 ∷ 0 ∷ 0 ∷ 0 ∷ 0 ∷ 0 ∷ 0 ∷ 0 ∷ 0 ∷ 0 ∷ 0 ∷ 0 ∷ 0 ∷ 0 ∷ 0 ∷ 0 ∷ 0 ∷ 0 ∷ 0 ∷ 0 ∷ 80 ∷ 0 ∷ 0 ∷ 0 ∷ 0 ∷ 0 ∷ 0 ∷ 0 ∷ 5 ∷ 0 ∷ 0 ∷ 0 ∷ 0 ∷ 0 ∷ 0 ∷ 0 ∷ 92 ∷ 0 ∷ 0 ∷ 0 ∷ 0 ∷ 0 ∷ 0 ∷ 0 ∷ []) (197 ∷ 193 ∷ 228 ∷ 66 ∷ [])

type_3-fault : page_fault type_3 0 ≡ None → cloud_fault type_3 (v_cloud 13) ≡ Some (fault PacketType 1 92)
unfolding bit number logical pages_fault section_head_at section_header_fault section_fault section_at sort_at restart_at length_at stream_count_at lengths_at streams_at streams_of packet_at packet_head_fault is_misshapen_data packet_fault walk walk_from entry_count_at level_at entry_at entries_at entries_of is_misshapen_index rises begins_and_rises index_shape_fault index_packet_fault target_fault each_fault entry_fault entries_below root_level root_fault index_fault entries data_packets stream_of cut by_chunk packets_by_chunk starts_fault restarts_fault counted with_records chunk_firsts chunks chunks_fault bit_length width bits_at item_at first_prefix first_string string_at float_from items_fault items_from field_fault column_of fields_fault columns_of body_fault cloud_fault records_of pick descend path stretch cover chunk_at item_in item_of path_item
type_3-fault right = rw right refl

abbrev length_13 : List ℕ
length_13 = v_page (1 ∷ 0 ∷ 0 ∷ 0 ∷ 0 ∷ 0 ∷ 0 ∷ 0 ∷ 104 ∷ 0 ∷ 0 ∷ 0 ∷ 0 ∷ 0 ∷ 0 ∷ 0 ∷ 80 ∷ 0 ∷ 0 ∷ 0 ∷ 0 ∷ 0 ∷ 0 ∷ 0 ∷ 0 ∷ 0 ∷ 0 ∷ 0 ∷ 0 ∷ 0 ∷ 0 ∷ 0 ∷ []) (1 ∷ 1 ∷ 11 ∷ 0 ∷ 1 ∷ 0 ∷ 1 ∷ 0 ∷ 21 ∷ 0 ∷ 0 ∷ 0 ∷ 1 ∷ 1 ∷ 12 ∷ 0 ∷ 1 ∷ 0 ∷ 1 ∷ 0 ∷ 240 ∷ 0 ∷ 0 ∷ 0 ∷ 0 ∷ 0 ∷ 47 ∷ 0 ∷ 2 ∷ 0 ∷ 0 ∷ 0 ∷ 0 ∷ 0 ∷ 0 ∷ 0 ∷ 0 ∷ 0 ∷ 0 ∷ 0 ∷ 0 ∷ 0 ∷ 0 ∷ 0 ∷ 0 ∷ 0 ∷ 0 ∷ 0 ∷ 80 ∷ 0 ∷ 0 ∷ 0 ∷ 0 ∷ 0 ∷ 0 ∷ 0 ∷ 5 ∷ 0 ∷ 0 ∷ 0 ∷ 0 ∷ 0 ∷ 0 ∷ 0 ∷ 92 ∷ 0 ∷ 0 ∷ 0 ∷ 0 ∷ 0 ∷ 0 ∷ 0 ∷ []) (211 ∷ 127 ∷ 189 ∷ 244 ∷ [])

length_13-fault : page_fault length_13 0 ≡ None → cloud_fault length_13 (v_cloud 13) ≡ Some (fault PacketLength 1 92)
unfolding bit number logical pages_fault section_head_at section_header_fault section_fault section_at sort_at restart_at length_at stream_count_at lengths_at streams_at streams_of packet_at packet_head_fault is_misshapen_data packet_fault walk walk_from entry_count_at level_at entry_at entries_at entries_of is_misshapen_index rises begins_and_rises index_shape_fault index_packet_fault target_fault each_fault entry_fault entries_below root_level root_fault index_fault entries data_packets stream_of cut by_chunk packets_by_chunk starts_fault restarts_fault counted with_records chunk_firsts chunks chunks_fault bit_length width bits_at item_at first_prefix first_string string_at float_from items_fault items_from field_fault column_of fields_fault columns_of body_fault cloud_fault records_of pick descend path stretch cover chunk_at item_in item_of path_item
length_13-fault right = rw right refl

abbrev no_restart : List ℕ
no_restart = v_page (1 ∷ 0 ∷ 0 ∷ 0 ∷ 0 ∷ 0 ∷ 0 ∷ 0 ∷ 104 ∷ 0 ∷ 0 ∷ 0 ∷ 0 ∷ 0 ∷ 0 ∷ 0 ∷ 80 ∷ 0 ∷ 0 ∷ 0 ∷ 0 ∷ 0 ∷ 0 ∷ 0 ∷ 104 ∷ 0 ∷ 0 ∷ 0 ∷ 0 ∷ 0 ∷ 0 ∷ 0 ∷ []) (1 ∷ 1 ∷ 11 ∷ 0 ∷ 1 ∷ 0 ∷ 1 ∷ 0 ∷ 21 ∷ 0 ∷ 0 ∷ 0 ∷ 1 ∷ 0 ∷ 11 ∷ 0 ∷ 1 ∷ 0 ∷ 1 ∷ 0 ∷ 240 ∷ 0 ∷ 0 ∷ 0 ∷ 0 ∷ 0 ∷ 47 ∷ 0 ∷ 2 ∷ 0 ∷ 0 ∷ 0 ∷ 0 ∷ 0 ∷ 0 ∷ 0 ∷ 0 ∷ 0 ∷ 0 ∷ 0 ∷ 0 ∷ 0 ∷ 0 ∷ 0 ∷ 0 ∷ 0 ∷ 0 ∷ 0 ∷ 80 ∷ 0 ∷ 0 ∷ 0 ∷ 0 ∷ 0 ∷ 0 ∷ 0 ∷ 5 ∷ 0 ∷ 0 ∷ 0 ∷ 0 ∷ 0 ∷ 0 ∷ 0 ∷ 92 ∷ 0 ∷ 0 ∷ 0 ∷ 0 ∷ 0 ∷ 0 ∷ 0 ∷ []) (230 ∷ 222 ∷ 142 ∷ 122 ∷ [])

no_restart-fault : page_fault no_restart 0 ≡ None → cloud_fault no_restart (v_cloud 13) ≡ Some (fault IndexTarget 1 5)
unfolding bit number logical pages_fault section_head_at section_header_fault section_fault section_at sort_at restart_at length_at stream_count_at lengths_at streams_at streams_of packet_at packet_head_fault is_misshapen_data packet_fault walk walk_from entry_count_at level_at entry_at entries_at entries_of is_misshapen_index rises begins_and_rises index_shape_fault index_packet_fault target_fault each_fault entry_fault entries_below root_level root_fault index_fault entries data_packets stream_of cut by_chunk packets_by_chunk starts_fault restarts_fault counted with_records chunk_firsts chunks chunks_fault bit_length width bits_at item_at first_prefix first_string string_at float_from items_fault items_from field_fault column_of fields_fault columns_of body_fault cloud_fault records_of pick descend path stretch cover chunk_at item_in item_of path_item
no_restart-fault right = rw right refl

abbrev long_string : List ℕ
long_string = v_page (1 ∷ 0 ∷ 0 ∷ 0 ∷ 0 ∷ 0 ∷ 0 ∷ 0 ∷ 48 ∷ 0 ∷ 0 ∷ 0 ∷ 0 ∷ 0 ∷ 0 ∷ 0 ∷ 80 ∷ 0 ∷ 0 ∷ 0 ∷ 0 ∷ 0 ∷ 0 ∷ 0 ∷ 0 ∷ 0 ∷ 0 ∷ 0 ∷ 0 ∷ 0 ∷ 0 ∷ 0 ∷ []) (1 ∷ 1 ∷ 15 ∷ 0 ∷ 1 ∷ 0 ∷ 8 ∷ 0 ∷ 3 ∷ 0 ∷ 0 ∷ 2 ∷ 0 ∷ 0 ∷ 0 ∷ 0 ∷ 1 ∷ 0 ∷ 1 ∷ 0 ∷ 240 ∷ 0 ∷ 0 ∷ 0 ∷ 0 ∷ 0 ∷ 47 ∷ 0 ∷ 2 ∷ 0 ∷ 0 ∷ 0 ∷ 0 ∷ 0 ∷ 0 ∷ 0 ∷ 0 ∷ 0 ∷ 0 ∷ 0 ∷ 0 ∷ 0 ∷ 0 ∷ 0 ∷ 0 ∷ 0 ∷ 0 ∷ 0 ∷ 80 ∷ 0 ∷ 0 ∷ 0 ∷ 0 ∷ 0 ∷ 0 ∷ 0 ∷ 5 ∷ 0 ∷ 0 ∷ 0 ∷ 0 ∷ 0 ∷ 0 ∷ 0 ∷ 92 ∷ 0 ∷ 0 ∷ 0 ∷ 0 ∷ 0 ∷ 0 ∷ 0 ∷ []) (176 ∷ 185 ∷ 188 ∷ 255 ∷ [])

long_string-fault : page_fault long_string 0 ≡ None → cloud_fault long_string (string_cloud) ≡ Some (fault StringLimit 0 3)
unfolding bit number logical pages_fault section_head_at section_header_fault section_fault section_at sort_at restart_at length_at stream_count_at lengths_at streams_at streams_of packet_at packet_head_fault is_misshapen_data packet_fault walk walk_from entry_count_at level_at entry_at entries_at entries_of is_misshapen_index rises begins_and_rises index_shape_fault index_packet_fault target_fault each_fault entry_fault entries_below root_level root_fault index_fault entries data_packets stream_of cut by_chunk packets_by_chunk starts_fault restarts_fault counted with_records chunk_firsts chunks chunks_fault bit_length width bits_at item_at first_prefix first_string string_at float_from items_fault items_from field_fault column_of fields_fault columns_of body_fault cloud_fault records_of pick descend path stretch cover chunk_at item_in item_of path_item
long_string-fault right = rw right refl

abbrev cut_string : List ℕ
cut_string = v_page (1 ∷ 0 ∷ 0 ∷ 0 ∷ 0 ∷ 0 ∷ 0 ∷ 0 ∷ 48 ∷ 0 ∷ 0 ∷ 0 ∷ 0 ∷ 0 ∷ 0 ∷ 0 ∷ 80 ∷ 0 ∷ 0 ∷ 0 ∷ 0 ∷ 0 ∷ 0 ∷ 0 ∷ 0 ∷ 0 ∷ 0 ∷ 0 ∷ 0 ∷ 0 ∷ 0 ∷ 0 ∷ []) (1 ∷ 1 ∷ 15 ∷ 0 ∷ 1 ∷ 0 ∷ 8 ∷ 0 ∷ 1 ∷ 0 ∷ 0 ∷ 2 ∷ 0 ∷ 0 ∷ 0 ∷ 0 ∷ 1 ∷ 0 ∷ 1 ∷ 0 ∷ 240 ∷ 0 ∷ 0 ∷ 0 ∷ 0 ∷ 0 ∷ 47 ∷ 0 ∷ 2 ∷ 0 ∷ 0 ∷ 0 ∷ 0 ∷ 0 ∷ 0 ∷ 0 ∷ 0 ∷ 0 ∷ 0 ∷ 0 ∷ 0 ∷ 0 ∷ 0 ∷ 0 ∷ 0 ∷ 0 ∷ 0 ∷ 0 ∷ 80 ∷ 0 ∷ 0 ∷ 0 ∷ 0 ∷ 0 ∷ 0 ∷ 0 ∷ 5 ∷ 0 ∷ 0 ∷ 0 ∷ 0 ∷ 0 ∷ 0 ∷ 0 ∷ 92 ∷ 0 ∷ 0 ∷ 0 ∷ 0 ∷ 0 ∷ 0 ∷ 0 ∷ []) (163 ∷ 117 ∷ 74 ∷ 183 ∷ [])

cut_string-fault : page_fault cut_string 0 ≡ None → cloud_fault cut_string (string_cloud) ≡ Some (fault StreamShort 0 3)
unfolding bit number logical pages_fault section_head_at section_header_fault section_fault section_at sort_at restart_at length_at stream_count_at lengths_at streams_at streams_of packet_at packet_head_fault is_misshapen_data packet_fault walk walk_from entry_count_at level_at entry_at entries_at entries_of is_misshapen_index rises begins_and_rises index_shape_fault index_packet_fault target_fault each_fault entry_fault entries_below root_level root_fault index_fault entries data_packets stream_of cut by_chunk packets_by_chunk starts_fault restarts_fault counted with_records chunk_firsts chunks chunks_fault bit_length width bits_at item_at first_prefix first_string string_at float_from items_fault items_from field_fault column_of fields_fault columns_of body_fault cloud_fault records_of pick descend path stretch cover chunk_at item_in item_of path_item
cut_string-fault right = rw right refl

v-records : page_fault v 0 ≡ None → records_of v (v_cloud 13) ≡ ((whole (pos 1) ∷ whole (pos 0) ∷ whole (pos 1) ∷ whole (pos 0) ∷ whole (pos 1) ∷ whole (pos 0) ∷ whole (pos 0) ∷ whole (pos 0) ∷ whole (pos 0) ∷ whole (pos 1) ∷ whole (pos 1) ∷ whole (pos 1) ∷ whole (pos 1) ∷ []) ∷ [])
unfolding bit number logical pages_fault section_head_at section_header_fault section_fault section_at sort_at restart_at length_at stream_count_at lengths_at streams_at streams_of packet_at packet_head_fault is_misshapen_data packet_fault walk walk_from entry_count_at level_at entry_at entries_at entries_of is_misshapen_index rises begins_and_rises index_shape_fault index_packet_fault target_fault each_fault entry_fault entries_below root_level root_fault index_fault entries data_packets stream_of cut by_chunk packets_by_chunk starts_fault restarts_fault counted with_records chunk_firsts chunks chunks_fault bit_length width bits_at item_at first_prefix first_string string_at float_from items_fault items_from field_fault column_of fields_fault columns_of body_fault cloud_fault records_of pick descend path stretch cover chunk_at item_in item_of path_item
v-records right = rw right refl

v-item : page_fault v 0 ≡ None → path_item v (v_cloud 13) 0 v_leaf 12 ≡ Ok (whole (pos 1))
unfolding bit number logical pages_fault section_head_at section_header_fault section_fault section_at sort_at restart_at length_at stream_count_at lengths_at streams_at streams_of packet_at packet_head_fault is_misshapen_data packet_fault walk walk_from entry_count_at level_at entry_at entries_at entries_of is_misshapen_index rises begins_and_rises index_shape_fault index_packet_fault target_fault each_fault entry_fault entries_below root_level root_fault index_fault entries data_packets stream_of cut by_chunk packets_by_chunk starts_fault restarts_fault counted with_records chunk_firsts chunks chunks_fault bit_length width bits_at item_at first_prefix first_string string_at float_from items_fault items_from field_fault column_of fields_fault columns_of body_fault cloud_fault records_of pick descend path stretch cover chunk_at item_in item_of path_item
v-item right = rw (right, right) refl

unindexed-item : page_fault unindexed 0 ≡ None → path_item unindexed (v_cloud 13) 0 v_leaf 7 ≡ Ok (whole (pos 0))
unfolding bit number logical pages_fault section_head_at section_header_fault section_fault section_at sort_at restart_at length_at stream_count_at lengths_at streams_at streams_of packet_at packet_head_fault is_misshapen_data packet_fault walk walk_from entry_count_at level_at entry_at entries_at entries_of is_misshapen_index rises begins_and_rises index_shape_fault index_packet_fault target_fault each_fault entry_fault entries_below root_level root_fault index_fault entries data_packets stream_of cut by_chunk packets_by_chunk starts_fault restarts_fault counted with_records chunk_firsts chunks chunks_fault bit_length width bits_at item_at first_prefix first_string string_at float_from items_fault items_from field_fault column_of fields_fault columns_of body_fault cloud_fault records_of pick descend path stretch cover chunk_at item_in item_of path_item
unindexed-item right = rw right refl

unindexed-end : page_fault unindexed 0 ≡ None → path_item unindexed (v_cloud 13) 0 v_leaf 8 ≡ Err (fault RestartUnindexed 1 92)
unfolding bit number logical pages_fault section_head_at section_header_fault section_fault section_at sort_at restart_at length_at stream_count_at lengths_at streams_at streams_of packet_at packet_head_fault is_misshapen_data packet_fault walk walk_from entry_count_at level_at entry_at entries_at entries_of is_misshapen_index rises begins_and_rises index_shape_fault index_packet_fault target_fault each_fault entry_fault entries_below root_level root_fault index_fault entries data_packets stream_of cut by_chunk packets_by_chunk starts_fault restarts_fault counted with_records chunk_firsts chunks chunks_fault bit_length width bits_at item_at first_prefix first_string string_at float_from items_fault items_from field_fault column_of fields_fault columns_of body_fault cloud_fault records_of pick descend path stretch cover chunk_at item_in item_of path_item
unindexed-end right = rw right refl

no_restart-item : page_fault no_restart 0 ≡ None → path_item no_restart (v_cloud 13) 0 v_leaf 4 ≡ Ok (whole (pos 1))
unfolding bit number logical pages_fault section_head_at section_header_fault section_fault section_at sort_at restart_at length_at stream_count_at lengths_at streams_at streams_of packet_at packet_head_fault is_misshapen_data packet_fault walk walk_from entry_count_at level_at entry_at entries_at entries_of is_misshapen_index rises begins_and_rises index_shape_fault index_packet_fault target_fault each_fault entry_fault entries_below root_level root_fault index_fault entries data_packets stream_of cut by_chunk packets_by_chunk starts_fault restarts_fault counted with_records chunk_firsts chunks chunks_fault bit_length width bits_at item_at first_prefix first_string string_at float_from items_fault items_from field_fault column_of fields_fault columns_of body_fault cloud_fault records_of pick descend path stretch cover chunk_at item_in item_of path_item
no_restart-item right = rw (right, right) refl

no_restart-end : page_fault no_restart 0 ≡ None → path_item no_restart (v_cloud 13) 0 v_leaf 5 ≡ Err (fault IndexTarget 1 5)
unfolding bit number logical pages_fault section_head_at section_header_fault section_fault section_at sort_at restart_at length_at stream_count_at lengths_at streams_at streams_of packet_at packet_head_fault is_misshapen_data packet_fault walk walk_from entry_count_at level_at entry_at entries_at entries_of is_misshapen_index rises begins_and_rises index_shape_fault index_packet_fault target_fault each_fault entry_fault entries_below root_level root_fault index_fault entries data_packets stream_of cut by_chunk packets_by_chunk starts_fault restarts_fault counted with_records chunk_firsts chunks chunks_fault bit_length width bits_at item_at first_prefix first_string string_at float_from items_fault items_from field_fault column_of fields_fault columns_of body_fault cloud_fault records_of pick descend path stretch cover chunk_at item_in item_of path_item
no_restart-end right = rw right refl

abbrev constant : List ℕ
constant = v_page (1 ∷ 0 ∷ 0 ∷ 0 ∷ 0 ∷ 0 ∷ 0 ∷ 0 ∷ 32 ∷ 0 ∷ 0 ∷ 0 ∷ 0 ∷ 0 ∷ 0 ∷ 0 ∷ 80 ∷ 0 ∷ 0 ∷ 0 ∷ 0 ∷ 0 ∷ 0 ∷ 0 ∷ 0 ∷ 0 ∷ 0 ∷ 0 ∷ 0 ∷ 0 ∷ 0 ∷ 0 ∷ []) (1 ∷ 1 ∷ 11 ∷ 0 ∷ 1 ∷ 0 ∷ 1 ∷ 0 ∷ 21 ∷ 0 ∷ 0 ∷ 0 ∷ 1 ∷ 1 ∷ 11 ∷ 0 ∷ 1 ∷ 0 ∷ 1 ∷ 0 ∷ 240 ∷ 0 ∷ 0 ∷ 0 ∷ 0 ∷ 0 ∷ 47 ∷ 0 ∷ 2 ∷ 0 ∷ 0 ∷ 0 ∷ 0 ∷ 0 ∷ 0 ∷ 0 ∷ 0 ∷ 0 ∷ 0 ∷ 0 ∷ 0 ∷ 0 ∷ 0 ∷ 0 ∷ 0 ∷ 0 ∷ 0 ∷ 0 ∷ 80 ∷ 0 ∷ 0 ∷ 0 ∷ 0 ∷ 0 ∷ 0 ∷ 0 ∷ 5 ∷ 0 ∷ 0 ∷ 0 ∷ 0 ∷ 0 ∷ 0 ∷ 0 ∷ 92 ∷ 0 ∷ 0 ∷ 0 ∷ 0 ∷ 0 ∷ 0 ∷ 0 ∷ []) (181 ∷ 72 ∷ 228 ∷ 162 ∷ [])

constant-item : page_fault constant 0 ≡ None → path_item constant constant_cloud 0 constant_leaf 1099511627775 ≡ Ok (whole (pos 5))
unfolding bit number logical pages_fault section_head_at section_header_fault section_fault section_at sort_at restart_at length_at stream_count_at lengths_at streams_at streams_of packet_at packet_head_fault is_misshapen_data packet_fault walk walk_from entry_count_at level_at entry_at entries_at entries_of is_misshapen_index rises begins_and_rises index_shape_fault index_packet_fault target_fault each_fault entry_fault entries_below root_level root_fault index_fault entries data_packets stream_of cut by_chunk packets_by_chunk starts_fault restarts_fault counted with_records chunk_firsts chunks chunks_fault bit_length width bits_at item_at first_prefix first_string string_at float_from items_fault items_from field_fault column_of fields_fault columns_of body_fault cloud_fault records_of pick descend path stretch cover chunk_at item_in item_of path_item
constant-item right = rw right refl

abbrev float_leaf : Leaf
float_leaf = record { node = 3; kind = words 32 }

abbrev float_cloud : ℕ → Cloud
float_cloud count = record { node = 1; offset = 48; count = count; leaves = float_leaf ∷ [] }

abbrev floats : List ℕ
floats = v_page (1 ∷ 0 ∷ 0 ∷ 0 ∷ 0 ∷ 0 ∷ 0 ∷ 0 ∷ 60 ∷ 0 ∷ 0 ∷ 0 ∷ 0 ∷ 0 ∷ 0 ∷ 0 ∷ 80 ∷ 0 ∷ 0 ∷ 0 ∷ 0 ∷ 0 ∷ 0 ∷ 0 ∷ 0 ∷ 0 ∷ 0 ∷ 0 ∷ 0 ∷ 0 ∷ 0 ∷ 0 ∷ []) (1 ∷ 1 ∷ 15 ∷ 0 ∷ 1 ∷ 0 ∷ 8 ∷ 0 ∷ 0 ∷ 0 ∷ 128 ∷ 63 ∷ 0 ∷ 0 ∷ 0 ∷ 64 ∷ 1 ∷ 1 ∷ 11 ∷ 0 ∷ 1 ∷ 0 ∷ 4 ∷ 0 ∷ 0 ∷ 0 ∷ 0 ∷ 63 ∷ 0 ∷ 0 ∷ 0 ∷ 0 ∷ 0 ∷ 0 ∷ 0 ∷ 0 ∷ 0 ∷ 0 ∷ 0 ∷ 0 ∷ 0 ∷ 0 ∷ 0 ∷ 0 ∷ 0 ∷ 0 ∷ 0 ∷ 0 ∷ 0 ∷ 0 ∷ 0 ∷ 0 ∷ 0 ∷ 0 ∷ 0 ∷ 0 ∷ 0 ∷ 0 ∷ 0 ∷ 0 ∷ 0 ∷ 0 ∷ 0 ∷ 0 ∷ 0 ∷ 0 ∷ 0 ∷ 0 ∷ 0 ∷ 0 ∷ 0 ∷ 0 ∷ []) (51 ∷ 201 ∷ 216 ∷ 13 ∷ [])

floats-fault : page_fault floats 0 ≡ None → cloud_fault floats (float_cloud 3) ≡ None
unfolding bit number logical pages_fault section_head_at section_header_fault section_fault section_at sort_at restart_at length_at stream_count_at lengths_at streams_at streams_of packet_at packet_head_fault is_misshapen_data packet_fault walk walk_from entry_count_at level_at entry_at entries_at entries_of is_misshapen_index rises begins_and_rises index_shape_fault index_packet_fault target_fault each_fault entry_fault entries_below root_level root_fault index_fault entries data_packets stream_of cut by_chunk packets_by_chunk starts_fault restarts_fault counted with_records chunk_firsts chunks chunks_fault bit_length width bits_at item_at first_prefix first_string string_at float_from items_fault items_from field_fault column_of fields_fault columns_of body_fault cloud_fault records_of pick descend path stretch cover chunk_at item_in item_of path_item
floats-fault right = rw right refl

floats-records : page_fault floats 0 ≡ None → records_of floats (float_cloud 3) ≡ ((word 0x3f800000 ∷ word 0x40000000 ∷ word 0x3f000000 ∷ []) ∷ [])
unfolding bit number logical pages_fault section_head_at section_header_fault section_fault section_at sort_at restart_at length_at stream_count_at lengths_at streams_at streams_of packet_at packet_head_fault is_misshapen_data packet_fault walk walk_from entry_count_at level_at entry_at entries_at entries_of is_misshapen_index rises begins_and_rises index_shape_fault index_packet_fault target_fault each_fault entry_fault entries_below root_level root_fault index_fault entries data_packets stream_of cut by_chunk packets_by_chunk starts_fault restarts_fault counted with_records chunk_firsts chunks chunks_fault bit_length width bits_at item_at first_prefix first_string string_at float_from items_fault items_from field_fault column_of fields_fault columns_of body_fault cloud_fault records_of pick descend path stretch cover chunk_at item_in item_of path_item
floats-records right = rw right refl

floats-few : page_fault floats 0 ≡ None → cloud_fault floats (float_cloud 2) ≡ Some (fault RestartUnindexed 1 96)
unfolding bit number logical pages_fault section_head_at section_header_fault section_fault section_at sort_at restart_at length_at stream_count_at lengths_at streams_at streams_of packet_at packet_head_fault is_misshapen_data packet_fault walk walk_from entry_count_at level_at entry_at entries_at entries_of is_misshapen_index rises begins_and_rises index_shape_fault index_packet_fault target_fault each_fault entry_fault entries_below root_level root_fault index_fault entries data_packets stream_of cut by_chunk packets_by_chunk starts_fault restarts_fault counted with_records chunk_firsts chunks chunks_fault bit_length width bits_at item_at first_prefix first_string string_at float_from items_fault items_from field_fault column_of fields_fault columns_of body_fault cloud_fault records_of pick descend path stretch cover chunk_at item_in item_of path_item
floats-few right = rw right refl

floats-item : page_fault floats 0 ≡ None → path_item floats (float_cloud 2) 0 float_leaf 1 ≡ Ok (word 0x40000000)
unfolding bit number logical pages_fault section_head_at section_header_fault section_fault section_at sort_at restart_at length_at stream_count_at lengths_at streams_at streams_of packet_at packet_head_fault is_misshapen_data packet_fault walk walk_from entry_count_at level_at entry_at entries_at entries_of is_misshapen_index rises begins_and_rises index_shape_fault index_packet_fault target_fault each_fault entry_fault entries_below root_level root_fault index_fault entries data_packets stream_of cut by_chunk packets_by_chunk starts_fault restarts_fault counted with_records chunk_firsts chunks chunks_fault bit_length width bits_at item_at first_prefix first_string string_at float_from items_fault items_from field_fault column_of fields_fault columns_of body_fault cloud_fault records_of pick descend path stretch cover chunk_at item_in item_of path_item
floats-item right = rw (right, right) refl

-- ---- a section of four fields on page 1 of a file

abbrev s_leaves : ℕ → List Leaf
s_leaves most = record { node = 3; kind = integers (pos 0) (pos most) } ∷ record { node = 4; kind = integers (pos 5) (pos 5) } ∷ record { node = 5; kind = words 32 } ∷ record { node = 6; kind = strings } ∷ []

abbrev s_cloud : ℕ → ℕ → Cloud
s_cloud count most = record { node = 1; offset = 1024; count = count; leaves = s_leaves most }

-- pages 0 and 2 are never read
abbrev s_file : List ℕ → List ℕ → List ℕ
s_file piece checksum = replicate 1024 0 ++ (piece ++ (replicate 920 0 ++ (checksum ++ replicate 1024 0)))

abbrev s : List ℕ
s = s_file (1 ∷ 0 ∷ 0 ∷ 0 ∷ 0 ∷ 0 ∷ 0 ∷ 0 ∷ 100 ∷ 0 ∷ 0 ∷ 0 ∷ 0 ∷ 0 ∷ 0 ∷ 0 ∷ 32 ∷ 4 ∷ 0 ∷ 0 ∷ 0 ∷ 0 ∷ 0 ∷ 0 ∷ 68 ∷ 4 ∷ 0 ∷ 0 ∷ 0 ∷ 0 ∷ 0 ∷ 0 ∷ 1 ∷ 1 ∷ 35 ∷ 0 ∷ 4 ∷ 0 ∷ 2 ∷ 0 ∷ 0 ∷ 0 ∷ 12 ∷ 0 ∷ 7 ∷ 0 ∷ 241 ∷ 1 ∷ 0 ∷ 0 ∷ 128 ∷ 63 ∷ 0 ∷ 0 ∷ 0 ∷ 64 ∷ 0 ∷ 0 ∷ 0 ∷ 0 ∷ 0 ∷ 6 ∷ 97 ∷ 98 ∷ 99 ∷ 2 ∷ 113 ∷ 0 ∷ 0 ∷ 0 ∷ 31 ∷ 0 ∷ 1 ∷ 0 ∷ 0 ∷ 0 ∷ 0 ∷ 0 ∷ 0 ∷ 0 ∷ 0 ∷ 0 ∷ 0 ∷ 0 ∷ 0 ∷ 0 ∷ 0 ∷ 0 ∷ 0 ∷ 0 ∷ 0 ∷ 0 ∷ 32 ∷ 4 ∷ 0 ∷ 0 ∷ 0 ∷ 0 ∷ 0 ∷ 0 ∷ []) (209 ∷ 62 ∷ 78 ∷ 109 ∷ [])

s-fault : page_fault s 1 ≡ None → cloud_fault s (s_cloud 3 7) ≡ None
unfolding bit number logical pages_fault section_head_at section_header_fault section_fault section_at sort_at restart_at length_at stream_count_at lengths_at streams_at streams_of packet_at packet_head_fault is_misshapen_data packet_fault walk walk_from entry_count_at level_at entry_at entries_at entries_of is_misshapen_index rises begins_and_rises index_shape_fault index_packet_fault target_fault each_fault entry_fault entries_below root_level root_fault index_fault entries data_packets stream_of cut by_chunk packets_by_chunk starts_fault restarts_fault counted with_records chunk_firsts chunks chunks_fault bit_length width bits_at item_at first_prefix first_string string_at float_from items_fault items_from field_fault column_of fields_fault columns_of body_fault cloud_fault records_of pick descend path stretch cover chunk_at item_in item_of path_item
s-fault right = rw right refl

s-range : page_fault s 1 ≡ None → cloud_fault s (s_cloud 3 6) ≡ Some (fault ValueRange 2 3)
unfolding bit number logical pages_fault section_head_at section_header_fault section_fault section_at sort_at restart_at length_at stream_count_at lengths_at streams_at streams_of packet_at packet_head_fault is_misshapen_data packet_fault walk walk_from entry_count_at level_at entry_at entries_at entries_of is_misshapen_index rises begins_and_rises index_shape_fault index_packet_fault target_fault each_fault entry_fault entries_below root_level root_fault index_fault entries data_packets stream_of cut by_chunk packets_by_chunk starts_fault restarts_fault counted with_records chunk_firsts chunks chunks_fault bit_length width bits_at item_at first_prefix first_string string_at float_from items_fault items_from field_fault column_of fields_fault columns_of body_fault cloud_fault records_of pick descend path stretch cover chunk_at item_in item_of path_item
s-range right = rw right refl

s-short : page_fault s 1 ≡ None → cloud_fault s (s_cloud 4 7) ≡ Some (fault StreamShort 3 5)
unfolding bit number logical pages_fault section_head_at section_header_fault section_fault section_at sort_at restart_at length_at stream_count_at lengths_at streams_at streams_of packet_at packet_head_fault is_misshapen_data packet_fault walk walk_from entry_count_at level_at entry_at entries_at entries_of is_misshapen_index rises begins_and_rises index_shape_fault index_packet_fault target_fault each_fault entry_fault entries_below root_level root_fault index_fault entries data_packets stream_of cut by_chunk packets_by_chunk starts_fault restarts_fault counted with_records chunk_firsts chunks chunks_fault bit_length width bits_at item_at first_prefix first_string string_at float_from items_fault items_from field_fault column_of fields_fault columns_of body_fault cloud_fault records_of pick descend path stretch cover chunk_at item_in item_of path_item
s-short right = rw right refl

abbrev long_stream : List ℕ
long_stream = s_file (1 ∷ 0 ∷ 0 ∷ 0 ∷ 0 ∷ 0 ∷ 0 ∷ 0 ∷ 100 ∷ 0 ∷ 0 ∷ 0 ∷ 0 ∷ 0 ∷ 0 ∷ 0 ∷ 32 ∷ 4 ∷ 0 ∷ 0 ∷ 0 ∷ 0 ∷ 0 ∷ 0 ∷ 68 ∷ 4 ∷ 0 ∷ 0 ∷ 0 ∷ 0 ∷ 0 ∷ 0 ∷ 1 ∷ 1 ∷ 35 ∷ 0 ∷ 4 ∷ 0 ∷ 240 ∷ 0 ∷ 0 ∷ 0 ∷ 12 ∷ 0 ∷ 7 ∷ 0 ∷ 241 ∷ 1 ∷ 0 ∷ 0 ∷ 128 ∷ 63 ∷ 0 ∷ 0 ∷ 0 ∷ 64 ∷ 0 ∷ 0 ∷ 0 ∷ 0 ∷ 0 ∷ 6 ∷ 97 ∷ 98 ∷ 99 ∷ 2 ∷ 113 ∷ 0 ∷ 0 ∷ 0 ∷ 31 ∷ 0 ∷ 1 ∷ 0 ∷ 0 ∷ 0 ∷ 0 ∷ 0 ∷ 0 ∷ 0 ∷ 0 ∷ 0 ∷ 0 ∷ 0 ∷ 0 ∷ 0 ∷ 0 ∷ 0 ∷ 0 ∷ 0 ∷ 0 ∷ 0 ∷ 32 ∷ 4 ∷ 0 ∷ 0 ∷ 0 ∷ 0 ∷ 0 ∷ 0 ∷ []) (36 ∷ 94 ∷ 26 ∷ 194 ∷ [])

long_stream-fault : page_fault long_stream 1 ≡ None → cloud_fault long_stream (s_cloud 3 7) ≡ Some (fault DataShape 1 1052)
unfolding bit number logical pages_fault section_head_at section_header_fault section_fault section_at sort_at restart_at length_at stream_count_at lengths_at streams_at streams_of packet_at packet_head_fault is_misshapen_data packet_fault walk walk_from entry_count_at level_at entry_at entries_at entries_of is_misshapen_index rises begins_and_rises index_shape_fault index_packet_fault target_fault each_fault entry_fault entries_below root_level root_fault index_fault entries data_packets stream_of cut by_chunk packets_by_chunk starts_fault restarts_fault counted with_records chunk_firsts chunks chunks_fault bit_length width bits_at item_at first_prefix first_string string_at float_from items_fault items_from field_fault column_of fields_fault columns_of body_fault cloud_fault records_of pick descend path stretch cover chunk_at item_in item_of path_item
long_stream-fault right = rw right refl

abbrev packet_type_3 : List ℕ
packet_type_3 = s_file (1 ∷ 0 ∷ 0 ∷ 0 ∷ 0 ∷ 0 ∷ 0 ∷ 0 ∷ 100 ∷ 0 ∷ 0 ∷ 0 ∷ 0 ∷ 0 ∷ 0 ∷ 0 ∷ 32 ∷ 4 ∷ 0 ∷ 0 ∷ 0 ∷ 0 ∷ 0 ∷ 0 ∷ 68 ∷ 4 ∷ 0 ∷ 0 ∷ 0 ∷ 0 ∷ 0 ∷ 0 ∷ 3 ∷ 1 ∷ 35 ∷ 0 ∷ 4 ∷ 0 ∷ 2 ∷ 0 ∷ 0 ∷ 0 ∷ 12 ∷ 0 ∷ 7 ∷ 0 ∷ 241 ∷ 1 ∷ 0 ∷ 0 ∷ 128 ∷ 63 ∷ 0 ∷ 0 ∷ 0 ∷ 64 ∷ 0 ∷ 0 ∷ 0 ∷ 0 ∷ 0 ∷ 6 ∷ 97 ∷ 98 ∷ 99 ∷ 2 ∷ 113 ∷ 0 ∷ 0 ∷ 0 ∷ 31 ∷ 0 ∷ 1 ∷ 0 ∷ 0 ∷ 0 ∷ 0 ∷ 0 ∷ 0 ∷ 0 ∷ 0 ∷ 0 ∷ 0 ∷ 0 ∷ 0 ∷ 0 ∷ 0 ∷ 0 ∷ 0 ∷ 0 ∷ 0 ∷ 0 ∷ 32 ∷ 4 ∷ 0 ∷ 0 ∷ 0 ∷ 0 ∷ 0 ∷ 0 ∷ []) (254 ∷ 45 ∷ 24 ∷ 160 ∷ [])

packet_type_3-fault : page_fault packet_type_3 1 ≡ None → cloud_fault packet_type_3 (s_cloud 3 7) ≡ Some (fault IndexTarget 1 0)
unfolding bit number logical pages_fault section_head_at section_header_fault section_fault section_at sort_at restart_at length_at stream_count_at lengths_at streams_at streams_of packet_at packet_head_fault is_misshapen_data packet_fault walk walk_from entry_count_at level_at entry_at entries_at entries_of is_misshapen_index rises begins_and_rises index_shape_fault index_packet_fault target_fault each_fault entry_fault entries_below root_level root_fault index_fault entries data_packets stream_of cut by_chunk packets_by_chunk starts_fault restarts_fault counted with_records chunk_firsts chunks chunks_fault bit_length width bits_at item_at first_prefix first_string string_at float_from items_fault items_from field_fault column_of fields_fault columns_of body_fault cloud_fault records_of pick descend path stretch cover chunk_at item_in item_of path_item
packet_type_3-fault right = rw right refl

abbrev other_place : List ℕ
other_place = s_file (1 ∷ 0 ∷ 0 ∷ 0 ∷ 0 ∷ 0 ∷ 0 ∷ 0 ∷ 100 ∷ 0 ∷ 0 ∷ 0 ∷ 0 ∷ 0 ∷ 0 ∷ 0 ∷ 32 ∷ 4 ∷ 0 ∷ 0 ∷ 0 ∷ 0 ∷ 0 ∷ 0 ∷ 68 ∷ 4 ∷ 0 ∷ 0 ∷ 0 ∷ 0 ∷ 0 ∷ 0 ∷ 1 ∷ 1 ∷ 35 ∷ 0 ∷ 4 ∷ 0 ∷ 2 ∷ 0 ∷ 0 ∷ 0 ∷ 12 ∷ 0 ∷ 7 ∷ 0 ∷ 241 ∷ 1 ∷ 0 ∷ 0 ∷ 128 ∷ 63 ∷ 0 ∷ 0 ∷ 0 ∷ 64 ∷ 0 ∷ 0 ∷ 0 ∷ 0 ∷ 0 ∷ 6 ∷ 97 ∷ 98 ∷ 99 ∷ 2 ∷ 113 ∷ 0 ∷ 0 ∷ 0 ∷ 31 ∷ 0 ∷ 1 ∷ 0 ∷ 0 ∷ 0 ∷ 0 ∷ 0 ∷ 0 ∷ 0 ∷ 0 ∷ 0 ∷ 0 ∷ 0 ∷ 0 ∷ 0 ∷ 0 ∷ 0 ∷ 0 ∷ 0 ∷ 0 ∷ 0 ∷ 36 ∷ 4 ∷ 0 ∷ 0 ∷ 0 ∷ 0 ∷ 0 ∷ 0 ∷ []) (85 ∷ 105 ∷ 35 ∷ 63 ∷ [])

other_place-fault : page_fault other_place 1 ≡ None → cloud_fault other_place (s_cloud 3 7) ≡ Some (fault IndexTarget 1 0)
unfolding bit number logical pages_fault section_head_at section_header_fault section_fault section_at sort_at restart_at length_at stream_count_at lengths_at streams_at streams_of packet_at packet_head_fault is_misshapen_data packet_fault walk walk_from entry_count_at level_at entry_at entries_at entries_of is_misshapen_index rises begins_and_rises index_shape_fault index_packet_fault target_fault each_fault entry_fault entries_below root_level root_fault index_fault entries data_packets stream_of cut by_chunk packets_by_chunk starts_fault restarts_fault counted with_records chunk_firsts chunks chunks_fault bit_length width bits_at item_at first_prefix first_string string_at float_from items_fault items_from field_fault column_of fields_fault columns_of body_fault cloud_fault records_of pick descend path stretch cover chunk_at item_in item_of path_item
other_place-fault right = rw right refl

abbrev no_entry : List ℕ
no_entry = s_file (1 ∷ 0 ∷ 0 ∷ 0 ∷ 0 ∷ 0 ∷ 0 ∷ 0 ∷ 100 ∷ 0 ∷ 0 ∷ 0 ∷ 0 ∷ 0 ∷ 0 ∷ 0 ∷ 32 ∷ 4 ∷ 0 ∷ 0 ∷ 0 ∷ 0 ∷ 0 ∷ 0 ∷ 68 ∷ 4 ∷ 0 ∷ 0 ∷ 0 ∷ 0 ∷ 0 ∷ 0 ∷ 1 ∷ 1 ∷ 35 ∷ 0 ∷ 4 ∷ 0 ∷ 2 ∷ 0 ∷ 0 ∷ 0 ∷ 12 ∷ 0 ∷ 7 ∷ 0 ∷ 241 ∷ 1 ∷ 0 ∷ 0 ∷ 128 ∷ 63 ∷ 0 ∷ 0 ∷ 0 ∷ 64 ∷ 0 ∷ 0 ∷ 0 ∷ 0 ∷ 0 ∷ 6 ∷ 97 ∷ 98 ∷ 99 ∷ 2 ∷ 113 ∷ 0 ∷ 0 ∷ 0 ∷ 31 ∷ 0 ∷ 0 ∷ 0 ∷ 0 ∷ 0 ∷ 0 ∷ 0 ∷ 0 ∷ 0 ∷ 0 ∷ 0 ∷ 0 ∷ 0 ∷ 0 ∷ 0 ∷ 0 ∷ 0 ∷ 0 ∷ 0 ∷ 0 ∷ 0 ∷ 32 ∷ 4 ∷ 0 ∷ 0 ∷ 0 ∷ 0 ∷ 0 ∷ 0 ∷ []) (166 ∷ 11 ∷ 65 ∷ 15 ∷ [])

no_entry-fault : page_fault no_entry 1 ≡ None → cloud_fault no_entry (s_cloud 3 7) ≡ Some (fault IndexShape 1 1092)
unfolding bit number logical pages_fault section_head_at section_header_fault section_fault section_at sort_at restart_at length_at stream_count_at lengths_at streams_at streams_of packet_at packet_head_fault is_misshapen_data packet_fault walk walk_from entry_count_at level_at entry_at entries_at entries_of is_misshapen_index rises begins_and_rises index_shape_fault index_packet_fault target_fault each_fault entry_fault entries_below root_level root_fault index_fault entries data_packets stream_of cut by_chunk packets_by_chunk starts_fault restarts_fault counted with_records chunk_firsts chunks chunks_fault bit_length width bits_at item_at first_prefix first_string string_at float_from items_fault items_from field_fault column_of fields_fault columns_of body_fault cloud_fault records_of pick descend path stretch cover chunk_at item_in item_of path_item
no_entry-fault right = rw right refl

abbrev first_record_1 : List ℕ
first_record_1 = s_file (1 ∷ 0 ∷ 0 ∷ 0 ∷ 0 ∷ 0 ∷ 0 ∷ 0 ∷ 100 ∷ 0 ∷ 0 ∷ 0 ∷ 0 ∷ 0 ∷ 0 ∷ 0 ∷ 32 ∷ 4 ∷ 0 ∷ 0 ∷ 0 ∷ 0 ∷ 0 ∷ 0 ∷ 68 ∷ 4 ∷ 0 ∷ 0 ∷ 0 ∷ 0 ∷ 0 ∷ 0 ∷ 1 ∷ 1 ∷ 35 ∷ 0 ∷ 4 ∷ 0 ∷ 2 ∷ 0 ∷ 0 ∷ 0 ∷ 12 ∷ 0 ∷ 7 ∷ 0 ∷ 241 ∷ 1 ∷ 0 ∷ 0 ∷ 128 ∷ 63 ∷ 0 ∷ 0 ∷ 0 ∷ 64 ∷ 0 ∷ 0 ∷ 0 ∷ 0 ∷ 0 ∷ 6 ∷ 97 ∷ 98 ∷ 99 ∷ 2 ∷ 113 ∷ 0 ∷ 0 ∷ 0 ∷ 31 ∷ 0 ∷ 1 ∷ 0 ∷ 0 ∷ 0 ∷ 0 ∷ 0 ∷ 0 ∷ 0 ∷ 0 ∷ 0 ∷ 0 ∷ 0 ∷ 1 ∷ 0 ∷ 0 ∷ 0 ∷ 0 ∷ 0 ∷ 0 ∷ 0 ∷ 32 ∷ 4 ∷ 0 ∷ 0 ∷ 0 ∷ 0 ∷ 0 ∷ 0 ∷ []) (147 ∷ 231 ∷ 198 ∷ 229 ∷ [])

first_record_1-fault : page_fault first_record_1 1 ≡ None → cloud_fault first_record_1 (s_cloud 3 7) ≡ Some (fault IndexOrder 1 1092)
unfolding bit number logical pages_fault section_head_at section_header_fault section_fault section_at sort_at restart_at length_at stream_count_at lengths_at streams_at streams_of packet_at packet_head_fault is_misshapen_data packet_fault walk walk_from entry_count_at level_at entry_at entries_at entries_of is_misshapen_index rises begins_and_rises index_shape_fault index_packet_fault target_fault each_fault entry_fault entries_below root_level root_fault index_fault entries data_packets stream_of cut by_chunk packets_by_chunk starts_fault restarts_fault counted with_records chunk_firsts chunks chunks_fault bit_length width bits_at item_at first_prefix first_string string_at float_from items_fault items_from field_fault column_of fields_fault columns_of body_fault cloud_fault records_of pick descend path stretch cover chunk_at item_in item_of path_item
first_record_1-fault right = rw right refl

abbrev id_0 : List ℕ
id_0 = s_file (0 ∷ 0 ∷ 0 ∷ 0 ∷ 0 ∷ 0 ∷ 0 ∷ 0 ∷ 100 ∷ 0 ∷ 0 ∷ 0 ∷ 0 ∷ 0 ∷ 0 ∷ 0 ∷ 32 ∷ 4 ∷ 0 ∷ 0 ∷ 0 ∷ 0 ∷ 0 ∷ 0 ∷ 68 ∷ 4 ∷ 0 ∷ 0 ∷ 0 ∷ 0 ∷ 0 ∷ 0 ∷ 1 ∷ 1 ∷ 35 ∷ 0 ∷ 4 ∷ 0 ∷ 2 ∷ 0 ∷ 0 ∷ 0 ∷ 12 ∷ 0 ∷ 7 ∷ 0 ∷ 241 ∷ 1 ∷ 0 ∷ 0 ∷ 128 ∷ 63 ∷ 0 ∷ 0 ∷ 0 ∷ 64 ∷ 0 ∷ 0 ∷ 0 ∷ 0 ∷ 0 ∷ 6 ∷ 97 ∷ 98 ∷ 99 ∷ 2 ∷ 113 ∷ 0 ∷ 0 ∷ 0 ∷ 31 ∷ 0 ∷ 1 ∷ 0 ∷ 0 ∷ 0 ∷ 0 ∷ 0 ∷ 0 ∷ 0 ∷ 0 ∷ 0 ∷ 0 ∷ 0 ∷ 0 ∷ 0 ∷ 0 ∷ 0 ∷ 0 ∷ 0 ∷ 0 ∷ 0 ∷ 32 ∷ 4 ∷ 0 ∷ 0 ∷ 0 ∷ 0 ∷ 0 ∷ 0 ∷ []) (28 ∷ 252 ∷ 110 ∷ 176 ∷ [])

id_0-fault : page_fault id_0 1 ≡ None → cloud_fault id_0 (s_cloud 3 7) ≡ Some (fault SectionId 1 0)
unfolding bit number logical pages_fault section_head_at section_header_fault section_fault section_at sort_at restart_at length_at stream_count_at lengths_at streams_at streams_of packet_at packet_head_fault is_misshapen_data packet_fault walk walk_from entry_count_at level_at entry_at entries_at entries_of is_misshapen_index rises begins_and_rises index_shape_fault index_packet_fault target_fault each_fault entry_fault entries_below root_level root_fault index_fault entries data_packets stream_of cut by_chunk packets_by_chunk starts_fault restarts_fault counted with_records chunk_firsts chunks chunks_fault bit_length width bits_at item_at first_prefix first_string string_at float_from items_fault items_from field_fault column_of fields_fault columns_of body_fault cloud_fault records_of pick descend path stretch cover chunk_at item_in item_of path_item
id_0-fault right = rw right refl

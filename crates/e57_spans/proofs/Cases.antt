-- Cases that compute: the spans of small sections, whole and with a changed byte, in a page whose word is right.
use Rattle.std.proofs.Common.{◌≡◌, ℕ, List, [], ◌∷◌, ◌++◌, Option, refl, ap, ◌∙◌}
use Rattle.std.specs.Prelude.{true, length, is_some, pos, replicate, Some, None}
use Rattle.e57_bits.specs.Bits.{number, bit}
use Rattle.e57_base.specs.declared.kind.Kind.TheVariants.{SectionId, PacketLength, IndexShape, IndexOrder, IndexTarget, RestartUnindexed}
use Rattle.e57_base.specs.Fault.{fault}
use Rattle.e57_page.specs.File.{logical, page_fault, pages_fault}
use Rattle.e57_layout.specs.Headers.{section_head_at}
use Rattle.e57_layout.specs.Packets.{sort_at, restart_at, length_at, stream_count_at, lengths_at, streams_at, streams_of}
use Rattle.e57_layout.specs.IndexPackets.{entry_count_at, level_at, entry_at, entries_at}
use Rattle.e57_layout.specs.Widths.{bit_length, width}
use Rattle.e57_layout.specs.Values.{integers, whole}
use Rattle.e57_layout.specs.Items.{bits_at, item_at}
use Rattle.e57_layout.specs.declared.section.Section.{Section}
use Rattle.e57_layout.specs.declared.field.Fixed.{Fixed}
use Rattle.e57_spans.proofs.Laws.Walks.{spans-step}
use Rattle.e57_cloud.specs.Section.{section_header_fault, section_fault, section_at}
use Rattle.e57_cloud.specs.Walk.{packet_at, packet_head_fault, is_misshapen_data, packet_fault, walk, walk_from}
use Rattle.e57_cloud.specs.Index.{entries_of, is_misshapen_index, rises, begins_and_rises, index_shape_fault, index_packet_fault, target_fault, root_level, root_fault}
use Rattle.e57_cloud.specs.Chunks.{float_items, data_packets, stream_of, cut, by_chunk}
use Rattle.e57_cloud.specs.Cloud.{Leaf, Cloud, float_from}
use Rattle.e57_cloud.specs.PathItem.{pick, descend, path, stretch, cover, chunk_at, item_in, item_of, path_item, first_refusal}
use Rattle.e57_cloud.specs.Met.{place_after}
use Rattle.e57_spans.specs.Spans.{Span, span, is_restart, walk_spans_from, each_span, entry_spans, index_spans, next_start, walk_spans, section_spans}
use Rattle.e57_spans.specs.Judged.{fields_refusal, with_items, spans_of}
use Rattle.e57_spans.specs.Lost.{kept_records}
use Rattle.e57_spans.specs.Saved.{columns_from, saved_columns}

-- ---- two chunks of 2 records and of 1, whose items have one bit, at places 80 and 92; the index of both at place 104

abbrev v_leaf : Leaf
v_leaf = record { node = 3; kind = integers (pos 0) (pos 1) }

abbrev v_cloud : Cloud
v_cloud = record { node = 1; offset = 48; count = 3; leaves = v_leaf ∷ [] }

-- a page with a section of this header at place 48, and these packets after it
abbrev in_page : List ℕ → List ℕ → ℕ → List ℕ → List ℕ
in_page header packets zeros word = replicate 48 0 ++ (header ++ (packets ++ (replicate zeros 0 ++ word)))

-- no fault
abbrev v : List ℕ
v = in_page (1 ∷ 0 ∷ 0 ∷ 0 ∷ 0 ∷ 0 ∷ 0 ∷ 0 ∷ 104 ∷ 0 ∷ 0 ∷ 0 ∷ 0 ∷ 0 ∷ 0 ∷ 0 ∷ 80 ∷ 0 ∷ 0 ∷ 0 ∷ 0 ∷ 0 ∷ 0 ∷ 0 ∷ 104 ∷ 0 ∷ 0 ∷ 0 ∷ 0 ∷ 0 ∷ 0 ∷ 0 ∷ []) (1 ∷ 1 ∷ 11 ∷ 0 ∷ 1 ∷ 0 ∷ 1 ∷ 0 ∷ 1 ∷ 0 ∷ 0 ∷ 0 ∷ 1 ∷ 1 ∷ 11 ∷ 0 ∷ 1 ∷ 0 ∷ 1 ∷ 0 ∷ 3 ∷ 0 ∷ 0 ∷ 0 ∷ 0 ∷ 0 ∷ 47 ∷ 0 ∷ 2 ∷ 0 ∷ 0 ∷ 0 ∷ 0 ∷ 0 ∷ 0 ∷ 0 ∷ 0 ∷ 0 ∷ 0 ∷ 0 ∷ 0 ∷ 0 ∷ 0 ∷ 0 ∷ 0 ∷ 0 ∷ 0 ∷ 0 ∷ 80 ∷ 0 ∷ 0 ∷ 0 ∷ 0 ∷ 0 ∷ 0 ∷ 0 ∷ 2 ∷ 0 ∷ 0 ∷ 0 ∷ 0 ∷ 0 ∷ 0 ∷ 0 ∷ 92 ∷ 0 ∷ 0 ∷ 0 ∷ 0 ∷ 0 ∷ 0 ∷ 0 ∷ []) 868 (59 ∷ 243 ∷ 163 ∷ 129 ∷ [])

v-spans : page_fault v 0 ≡ None → spans_of v v_cloud ≡ span 0 2 None ∷ span 2 3 None ∷ []
unfolding bit number logical pages_fault section_head_at section_header_fault section_fault section_at sort_at restart_at length_at stream_count_at lengths_at streams_at streams_of packet_at packet_head_fault is_misshapen_data packet_fault walk walk_from entry_count_at level_at entry_at entries_at entries_of is_misshapen_index rises begins_and_rises index_shape_fault index_packet_fault target_fault root_level root_fault data_packets stream_of cut by_chunk bit_length width bits_at item_at float_from place_after pick descend path stretch cover chunk_at item_in item_of path_item first_refusal each_span entry_spans index_spans next_start walk_spans section_spans fields_refusal with_items spans_of
v-spans right = rw (right, right, right) refl

-- the packet of the second chunk has another type
abbrev other_type : List ℕ
other_type = in_page (1 ∷ 0 ∷ 0 ∷ 0 ∷ 0 ∷ 0 ∷ 0 ∷ 0 ∷ 104 ∷ 0 ∷ 0 ∷ 0 ∷ 0 ∷ 0 ∷ 0 ∷ 0 ∷ 80 ∷ 0 ∷ 0 ∷ 0 ∷ 0 ∷ 0 ∷ 0 ∷ 0 ∷ 104 ∷ 0 ∷ 0 ∷ 0 ∷ 0 ∷ 0 ∷ 0 ∷ 0 ∷ []) (1 ∷ 1 ∷ 11 ∷ 0 ∷ 1 ∷ 0 ∷ 1 ∷ 0 ∷ 1 ∷ 0 ∷ 0 ∷ 0 ∷ 3 ∷ 1 ∷ 11 ∷ 0 ∷ 1 ∷ 0 ∷ 1 ∷ 0 ∷ 3 ∷ 0 ∷ 0 ∷ 0 ∷ 0 ∷ 0 ∷ 47 ∷ 0 ∷ 2 ∷ 0 ∷ 0 ∷ 0 ∷ 0 ∷ 0 ∷ 0 ∷ 0 ∷ 0 ∷ 0 ∷ 0 ∷ 0 ∷ 0 ∷ 0 ∷ 0 ∷ 0 ∷ 0 ∷ 0 ∷ 0 ∷ 0 ∷ 80 ∷ 0 ∷ 0 ∷ 0 ∷ 0 ∷ 0 ∷ 0 ∷ 0 ∷ 2 ∷ 0 ∷ 0 ∷ 0 ∷ 0 ∷ 0 ∷ 0 ∷ 0 ∷ 92 ∷ 0 ∷ 0 ∷ 0 ∷ 0 ∷ 0 ∷ 0 ∷ 0 ∷ []) 868 (121 ∷ 216 ∷ 21 ∷ 40 ∷ [])

other_type-spans : page_fault other_type 0 ≡ None → spans_of other_type v_cloud ≡ span 0 2 None ∷ span 2 3 (Some (fault IndexTarget 1 2)) ∷ []
unfolding bit number logical pages_fault section_head_at section_header_fault section_fault section_at sort_at restart_at length_at stream_count_at lengths_at streams_at streams_of packet_at packet_head_fault is_misshapen_data packet_fault walk walk_from entry_count_at level_at entry_at entries_at entries_of is_misshapen_index rises begins_and_rises index_shape_fault index_packet_fault target_fault root_level root_fault data_packets stream_of cut by_chunk bit_length width bits_at item_at float_from place_after pick descend path stretch cover chunk_at item_in item_of path_item first_refusal each_span entry_spans index_spans next_start walk_spans section_spans fields_refusal with_items spans_of
other_type-spans right = rw (right, right, right) refl

other_type-saved : page_fault other_type 0 ≡ None → saved_columns other_type v_cloud ≡ (whole (pos 1) ∷ whole (pos 0) ∷ []) ∷ []
unfolding bit number logical pages_fault section_head_at section_header_fault section_fault section_at sort_at restart_at length_at stream_count_at lengths_at streams_at streams_of packet_at packet_head_fault is_misshapen_data packet_fault walk walk_from entry_count_at level_at entry_at entries_at entries_of is_misshapen_index rises begins_and_rises index_shape_fault index_packet_fault target_fault root_level root_fault data_packets stream_of cut by_chunk bit_length width bits_at item_at float_from place_after pick descend path stretch cover chunk_at item_in item_of path_item first_refusal each_span entry_spans index_spans next_start walk_spans section_spans fields_refusal with_items spans_of kept_records columns_from saved_columns
other_type-saved right = rw (right, right, right, right, right) refl

-- the index packet has level 1, so what its entries lead to are no index packets
abbrev other_level : List ℕ
other_level = in_page (1 ∷ 0 ∷ 0 ∷ 0 ∷ 0 ∷ 0 ∷ 0 ∷ 0 ∷ 104 ∷ 0 ∷ 0 ∷ 0 ∷ 0 ∷ 0 ∷ 0 ∷ 0 ∷ 80 ∷ 0 ∷ 0 ∷ 0 ∷ 0 ∷ 0 ∷ 0 ∷ 0 ∷ 104 ∷ 0 ∷ 0 ∷ 0 ∷ 0 ∷ 0 ∷ 0 ∷ 0 ∷ []) (1 ∷ 1 ∷ 11 ∷ 0 ∷ 1 ∷ 0 ∷ 1 ∷ 0 ∷ 1 ∷ 0 ∷ 0 ∷ 0 ∷ 1 ∷ 1 ∷ 11 ∷ 0 ∷ 1 ∷ 0 ∷ 1 ∷ 0 ∷ 3 ∷ 0 ∷ 0 ∷ 0 ∷ 0 ∷ 0 ∷ 47 ∷ 0 ∷ 2 ∷ 0 ∷ 1 ∷ 0 ∷ 0 ∷ 0 ∷ 0 ∷ 0 ∷ 0 ∷ 0 ∷ 0 ∷ 0 ∷ 0 ∷ 0 ∷ 0 ∷ 0 ∷ 0 ∷ 0 ∷ 0 ∷ 0 ∷ 80 ∷ 0 ∷ 0 ∷ 0 ∷ 0 ∷ 0 ∷ 0 ∷ 0 ∷ 2 ∷ 0 ∷ 0 ∷ 0 ∷ 0 ∷ 0 ∷ 0 ∷ 0 ∷ 92 ∷ 0 ∷ 0 ∷ 0 ∷ 0 ∷ 0 ∷ 0 ∷ 0 ∷ []) 868 (10 ∷ 3 ∷ 106 ∷ 9 ∷ [])

other_level-spans : page_fault other_level 0 ≡ None → spans_of other_level v_cloud ≡ span 0 2 (Some (fault IndexShape 1 80)) ∷ span 2 3 (Some (fault IndexShape 1 92)) ∷ []
unfolding bit number logical pages_fault section_head_at section_header_fault section_fault section_at sort_at restart_at length_at stream_count_at lengths_at streams_at streams_of packet_at packet_head_fault is_misshapen_data packet_fault walk walk_from entry_count_at level_at entry_at entries_at entries_of is_misshapen_index rises begins_and_rises index_shape_fault index_packet_fault target_fault root_level root_fault data_packets stream_of cut by_chunk bit_length width bits_at item_at float_from place_after pick descend path stretch cover chunk_at item_in item_of path_item first_refusal each_span entry_spans index_spans next_start walk_spans section_spans fields_refusal with_items spans_of
other_level-spans right = rw right refl

-- the record of the second entry is past the last one
abbrev other_order : List ℕ
other_order = in_page (1 ∷ 0 ∷ 0 ∷ 0 ∷ 0 ∷ 0 ∷ 0 ∷ 0 ∷ 104 ∷ 0 ∷ 0 ∷ 0 ∷ 0 ∷ 0 ∷ 0 ∷ 0 ∷ 80 ∷ 0 ∷ 0 ∷ 0 ∷ 0 ∷ 0 ∷ 0 ∷ 0 ∷ 104 ∷ 0 ∷ 0 ∷ 0 ∷ 0 ∷ 0 ∷ 0 ∷ 0 ∷ []) (1 ∷ 1 ∷ 11 ∷ 0 ∷ 1 ∷ 0 ∷ 1 ∷ 0 ∷ 1 ∷ 0 ∷ 0 ∷ 0 ∷ 1 ∷ 1 ∷ 11 ∷ 0 ∷ 1 ∷ 0 ∷ 1 ∷ 0 ∷ 3 ∷ 0 ∷ 0 ∷ 0 ∷ 0 ∷ 0 ∷ 47 ∷ 0 ∷ 2 ∷ 0 ∷ 0 ∷ 0 ∷ 0 ∷ 0 ∷ 0 ∷ 0 ∷ 0 ∷ 0 ∷ 0 ∷ 0 ∷ 0 ∷ 0 ∷ 0 ∷ 0 ∷ 0 ∷ 0 ∷ 0 ∷ 0 ∷ 80 ∷ 0 ∷ 0 ∷ 0 ∷ 0 ∷ 0 ∷ 0 ∷ 0 ∷ 3 ∷ 0 ∷ 0 ∷ 0 ∷ 0 ∷ 0 ∷ 0 ∷ 0 ∷ 92 ∷ 0 ∷ 0 ∷ 0 ∷ 0 ∷ 0 ∷ 0 ∷ 0 ∷ []) 868 (76 ∷ 106 ∷ 215 ∷ 148 ∷ [])

other_order-spans : page_fault other_order 0 ≡ None → spans_of other_order v_cloud ≡ span 0 3 (Some (fault IndexOrder 1 104)) ∷ []
unfolding bit number logical pages_fault section_head_at section_header_fault section_fault section_at sort_at restart_at length_at stream_count_at lengths_at streams_at streams_of packet_at packet_head_fault is_misshapen_data packet_fault walk walk_from entry_count_at level_at entry_at entries_at entries_of is_misshapen_index rises begins_and_rises index_shape_fault index_packet_fault target_fault root_level root_fault data_packets stream_of cut by_chunk bit_length width bits_at item_at float_from place_after pick descend path stretch cover chunk_at item_in item_of path_item first_refusal each_span entry_spans index_spans next_start walk_spans section_spans fields_refusal with_items spans_of
other_order-spans right = rw right refl

-- without an index
abbrev unindexed : List ℕ
unindexed = in_page (1 ∷ 0 ∷ 0 ∷ 0 ∷ 0 ∷ 0 ∷ 0 ∷ 0 ∷ 104 ∷ 0 ∷ 0 ∷ 0 ∷ 0 ∷ 0 ∷ 0 ∷ 0 ∷ 80 ∷ 0 ∷ 0 ∷ 0 ∷ 0 ∷ 0 ∷ 0 ∷ 0 ∷ 0 ∷ 0 ∷ 0 ∷ 0 ∷ 0 ∷ 0 ∷ 0 ∷ 0 ∷ []) (1 ∷ 1 ∷ 11 ∷ 0 ∷ 1 ∷ 0 ∷ 1 ∷ 0 ∷ 1 ∷ 0 ∷ 0 ∷ 0 ∷ 1 ∷ 1 ∷ 11 ∷ 0 ∷ 1 ∷ 0 ∷ 1 ∷ 0 ∷ 3 ∷ 0 ∷ 0 ∷ 0 ∷ 0 ∷ 0 ∷ 47 ∷ 0 ∷ 2 ∷ 0 ∷ 0 ∷ 0 ∷ 0 ∷ 0 ∷ 0 ∷ 0 ∷ 0 ∷ 0 ∷ 0 ∷ 0 ∷ 0 ∷ 0 ∷ 0 ∷ 0 ∷ 0 ∷ 0 ∷ 0 ∷ 0 ∷ 80 ∷ 0 ∷ 0 ∷ 0 ∷ 0 ∷ 0 ∷ 0 ∷ 0 ∷ 2 ∷ 0 ∷ 0 ∷ 0 ∷ 0 ∷ 0 ∷ 0 ∷ 0 ∷ 92 ∷ 0 ∷ 0 ∷ 0 ∷ 0 ∷ 0 ∷ 0 ∷ 0 ∷ []) 868 (247 ∷ 126 ∷ 131 ∷ 65 ∷ [])

unindexed-spans : page_fault unindexed 0 ≡ None → spans_of unindexed v_cloud ≡ span 0 3 (Some (fault RestartUnindexed 1 92)) ∷ []
unfolding bit number logical pages_fault section_head_at section_header_fault section_fault section_at sort_at restart_at length_at stream_count_at lengths_at streams_at streams_of packet_at packet_head_fault is_misshapen_data packet_fault walk walk_from entry_count_at level_at entry_at entries_at entries_of is_misshapen_index rises begins_and_rises index_shape_fault index_packet_fault target_fault root_level root_fault data_packets stream_of cut by_chunk bit_length width bits_at item_at float_from place_after pick descend path stretch cover chunk_at item_in item_of path_item first_refusal each_span entry_spans index_spans next_start walk_spans section_spans fields_refusal with_items spans_of
unindexed-spans right = rw right refl

-- another id of the section
abbrev other_id : List ℕ
other_id = in_page (2 ∷ 0 ∷ 0 ∷ 0 ∷ 0 ∷ 0 ∷ 0 ∷ 0 ∷ 104 ∷ 0 ∷ 0 ∷ 0 ∷ 0 ∷ 0 ∷ 0 ∷ 0 ∷ 80 ∷ 0 ∷ 0 ∷ 0 ∷ 0 ∷ 0 ∷ 0 ∷ 0 ∷ 104 ∷ 0 ∷ 0 ∷ 0 ∷ 0 ∷ 0 ∷ 0 ∷ 0 ∷ []) (1 ∷ 1 ∷ 11 ∷ 0 ∷ 1 ∷ 0 ∷ 1 ∷ 0 ∷ 1 ∷ 0 ∷ 0 ∷ 0 ∷ 1 ∷ 1 ∷ 11 ∷ 0 ∷ 1 ∷ 0 ∷ 1 ∷ 0 ∷ 3 ∷ 0 ∷ 0 ∷ 0 ∷ 0 ∷ 0 ∷ 47 ∷ 0 ∷ 2 ∷ 0 ∷ 0 ∷ 0 ∷ 0 ∷ 0 ∷ 0 ∷ 0 ∷ 0 ∷ 0 ∷ 0 ∷ 0 ∷ 0 ∷ 0 ∷ 0 ∷ 0 ∷ 0 ∷ 0 ∷ 0 ∷ 0 ∷ 80 ∷ 0 ∷ 0 ∷ 0 ∷ 0 ∷ 0 ∷ 0 ∷ 0 ∷ 2 ∷ 0 ∷ 0 ∷ 0 ∷ 0 ∷ 0 ∷ 0 ∷ 0 ∷ 92 ∷ 0 ∷ 0 ∷ 0 ∷ 0 ∷ 0 ∷ 0 ∷ 0 ∷ []) 868 (106 ∷ 60 ∷ 173 ∷ 60 ∷ [])

other_id-spans : page_fault other_id 0 ≡ None → spans_of other_id v_cloud ≡ span 0 3 (Some (fault SectionId 1 2)) ∷ []
unfolding bit number logical pages_fault section_head_at section_header_fault section_fault section_at sort_at restart_at length_at stream_count_at lengths_at streams_at streams_of packet_at packet_head_fault is_misshapen_data packet_fault walk walk_from entry_count_at level_at entry_at entries_at entries_of is_misshapen_index rises begins_and_rises index_shape_fault index_packet_fault target_fault root_level root_fault data_packets stream_of cut by_chunk bit_length width bits_at item_at float_from place_after pick descend path stretch cover chunk_at item_in item_of path_item first_refusal each_span entry_spans index_spans next_start walk_spans section_spans fields_refusal with_items spans_of
other_id-spans right = rw right refl

-- ---- without an index: two chunks of 2 records and of 1, whose items have 32 bits, at places 80 and 96; the length of the second packet is no
-- multiple of 4: it begins its chunk all the same, and its fault is that of this chunk

abbrev cut_float : List ℕ
cut_float = in_page (1 ∷ 0 ∷ 0 ∷ 0 ∷ 0 ∷ 0 ∷ 0 ∷ 0 ∷ 60 ∷ 0 ∷ 0 ∷ 0 ∷ 0 ∷ 0 ∷ 0 ∷ 0 ∷ 80 ∷ 0 ∷ 0 ∷ 0 ∷ 0 ∷ 0 ∷ 0 ∷ 0 ∷ 0 ∷ 0 ∷ 0 ∷ 0 ∷ 0 ∷ 0 ∷ 0 ∷ 0 ∷ []) (1 ∷ 1 ∷ 15 ∷ 0 ∷ 1 ∷ 0 ∷ 8 ∷ 0 ∷ 0 ∷ 0 ∷ 128 ∷ 63 ∷ 0 ∷ 0 ∷ 0 ∷ 64 ∷ 1 ∷ 1 ∷ 12 ∷ 0 ∷ 1 ∷ 0 ∷ 4 ∷ 0 ∷ 0 ∷ 0 ∷ 0 ∷ 63 ∷ []) 912 (79 ∷ 199 ∷ 42 ∷ 99 ∷ [])

abbrev float_section : Section
float_section = record { node = 1; fields = 1; start = 48; end = 108; data_place = 80; index = 0; count = 3 }

abbrev fixed_float : Option Fixed
fixed_float = Some (record { field = 0; bytes = 4 })

cut_float-items : page_fault cut_float 0 ≡ None → float_items fixed_float (stretch cut_float float_section 80).packets ≡ 2
unfolding bit number logical pages_fault sort_at restart_at length_at stream_count_at lengths_at streams_at streams_of packet_at packet_head_fault is_misshapen_data packet_fault walk walk_from data_packets stream_of cut by_chunk place_after stretch next_start
cut_float-items right = rw right refl

cut_float-open : page_fault cut_float 0 ≡ None → (stretch cut_float float_section 80).next ≡ None
unfolding bit number logical pages_fault sort_at restart_at length_at stream_count_at lengths_at streams_at streams_of packet_at packet_head_fault is_misshapen_data packet_fault walk walk_from data_packets stream_of cut by_chunk place_after stretch next_start
cut_float-open right = rw right refl

cut_float-fault : page_fault cut_float 0 ≡ None → is_some (stretch cut_float float_section 80).fault ≡ true
unfolding bit number logical pages_fault sort_at restart_at length_at stream_count_at lengths_at streams_at streams_of packet_at packet_head_fault is_misshapen_data packet_fault walk walk_from data_packets stream_of cut by_chunk place_after stretch next_start
cut_float-fault right = rw right refl

cut_float-some : page_fault cut_float 0 ≡ None → length (stretch cut_float float_section 80).packets ≡ 1
unfolding bit number logical pages_fault sort_at restart_at length_at stream_count_at lengths_at streams_at streams_of packet_at packet_head_fault is_misshapen_data packet_fault walk walk_from data_packets stream_of cut by_chunk place_after stretch next_start
cut_float-some right = rw right refl

cut_float-place : page_fault cut_float 0 ≡ None → place_after 80 (walk_from cut_float float_section 80).packets ≡ 96
unfolding bit number logical pages_fault sort_at restart_at length_at stream_count_at lengths_at streams_at streams_of packet_at packet_head_fault is_misshapen_data packet_fault walk walk_from data_packets stream_of cut by_chunk place_after stretch next_start
cut_float-place right = rw right refl

cut_float-restart : page_fault cut_float 0 ≡ None → is_restart cut_float 96 ≡ true
unfolding bit number logical pages_fault sort_at restart_at length_at stream_count_at lengths_at streams_at streams_of packet_at packet_head_fault is_misshapen_data packet_fault walk walk_from data_packets stream_of cut by_chunk place_after stretch next_start
cut_float-restart right = rw right refl

cut_float-next : page_fault cut_float 0 ≡ None → next_start cut_float float_section 80 ≡ Some 96
unfolding next_start
cut_float-next right = rw (cut_float-open right, cut_float-fault right, cut_float-some right, cut_float-place right, cut_float-restart right) refl

cut_float-none : page_fault cut_float 0 ≡ None → next_start cut_float float_section 96 ≡ None
unfolding bit number logical pages_fault sort_at restart_at length_at stream_count_at lengths_at streams_at streams_of packet_at packet_head_fault is_misshapen_data packet_fault walk walk_from data_packets stream_of cut by_chunk place_after stretch next_start
cut_float-none right = rw right refl

cut_float-ended : page_fault cut_float 0 ≡ None → (stretch cut_float float_section 96).fault ≡ Some (fault PacketLength 1 96)
unfolding bit number logical pages_fault sort_at restart_at length_at stream_count_at lengths_at streams_at streams_of packet_at packet_head_fault is_misshapen_data packet_fault walk walk_from data_packets stream_of cut by_chunk place_after stretch next_start
cut_float-ended right = rw right refl

cut_float-spans : page_fault cut_float 0 ≡ None → walk_spans_from cut_float float_section fixed_float 0 80 ≡ span 0 2 None ∷ span 2 3 (Some (fault PacketLength 1 96)) ∷ []
cut_float-spans right =
    spans-step cut_float float_section fixed_float 0 80
    ∙ rw (cut_float-items right, cut_float-next right) (ap (λ (spans : List Span). span 0 2 None ∷ spans) (spans-step cut_float float_section fixed_float 2 96 ∙ rw (cut_float-none right, cut_float-ended right) refl))

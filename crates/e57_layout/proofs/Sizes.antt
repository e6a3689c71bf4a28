-- Cases that compute: where groups are joined, begin a packet and are poured, and where an index gets a second level.
use Rattle.std.proofs.Common.{◌≡◌, ℕ, List, [], ◌∷◌, refl, map, replicate, None}
use Rattle.std.specs.List.{range_with_len}
use Rattle.e57_layout.specs.Bytes.{low_bytes}
use Rattle.e57_layout.specs.declared.packet.Entry.{Entry}
use Rattle.e57_layout.specs.Packets.{packet_head, lengths, data_size}
use Rattle.e57_layout.specs.IndexPackets.{index_head, entry_bytes, index_packet}
use Rattle.e57_layout.specs.Values.{strings, octets}
use Rattle.e57_layout.specs.Strings.{string_prefix, string_bytes_of}
use Rattle.e57_layout.specs.Items.{octets_of, field_bytes}
use Rattle.e57_layout.specs.Packing.{join_streams, fits_packet, first_records, later_records, cut_blocks, blocks, group_streams, front, behind, pour, poured, packets_of, chunk_groups, chunk_packets}
use Rattle.e57_layout.specs.Written.{physical, Spelled, records_packet, entries_packet, cut_runs, entry_runs, level_spelled, upper_entries, index_spelled, root_place, packet_bytes}

-- how many bytes each stream of each packet has
abbrev sizes : List (List (List ℕ)) → List (List ℕ)
sizes parts = map (λ (streams : List (List ℕ)). lengths streams) parts

-- groups of one field with so many bytes each
abbrev groups : List ℕ → List (List (List ℕ))
groups ns = map (λ (n : ℕ). replicate n 0 ∷ []) ns

-- three groups of 20,000 bytes fit in a packet; one of 65,528 bytes just fits; one byte more is poured, and what follows
-- begins anew
packets-joined :
    (sizes (packets_of None (groups (20000 ∷ 20000 ∷ 20000 ∷ 20000 ∷ []))) ≡ (60000 ∷ []) ∷ (20000 ∷ []) ∷ [])
    × (sizes (packets_of None (groups (65528 ∷ 1 ∷ []))) ≡ (65528 ∷ []) ∷ (1 ∷ []) ∷ [])
    × (sizes (packets_of None (groups (1 ∷ 65529 ∷ 1 ∷ []))) ≡ (1 ∷ []) ∷ (65528 ∷ []) ∷ (1 ∷ []) ∷ (1 ∷ []) ∷ [])
unfolding data_size join_streams fits_packet front behind pour poured packets_of
packets-joined = (refl, refl, refl)

-- streams that are poured are cut one after another
streams-poured : pour 8 4 ((1 ∷ 2 ∷ 3 ∷ []) ∷ (4 ∷ 5 ∷ 6 ∷ 7 ∷ 8 ∷ []) ∷ []) ≡ ((1 ∷ 2 ∷ 3 ∷ []) ∷ (4 ∷ []) ∷ []) ∷ ([] ∷ (5 ∷ 6 ∷ 7 ∷ 8 ∷ []) ∷ []) ∷ []
unfolding pour front behind
streams-poured = refl

-- a string of 70,000 bytes with its prefix of eight
string-poured : sizes (chunk_packets (strings ∷ []) (record { count = 1; columns = (octets (replicate 70000 97) ∷ []) ∷ [] })) ≡ (65528 ∷ []) ∷ (4480 ∷ []) ∷ []
unfolding low_bytes data_size string_prefix string_bytes_of octets_of field_bytes join_streams fits_packet first_records later_records cut_blocks blocks group_streams front behind pour poured packets_of chunk_groups chunk_packets
string-poured = refl

-- ---- the levels of an index

abbrev entries : ℕ → List Entry
entries n = map (λ (i : ℕ). record { first = i; place = i }) (range_with_len 0 n)

-- the level of each index packet, and its entries
abbrev levels : List Spelled → List (ℕ × List Entry)
levels [] = []
levels (records_packet restart streams ∷ later) = levels later
levels (entries_packet level es ∷ later) = (level, es) ∷ levels later

-- 2048 entries are one packet; one more has a second packet, and a level above the two
levels-made :
    (levels (index_spelled 5 0 1020 (entries 2048)) ≡ (0, entries 2048) ∷ [])
    × (levels (index_spelled 5 0 1020 (entries 2049)) ≡ (0, entries 2048) ∷ (0, record { first = 2048; place = 2048 } ∷ []) ∷ (1, record { first = 0; place = 1024 } ∷ record { first = 2048; place = 33936 } ∷ []) ∷ [])
    × (root_place 5 0 1020 (entries 2049) ≡ 33836)
unfolding low_bytes physical cut_runs entry_runs level_spelled upper_entries index_spelled root_place packet_bytes packet_head index_head entry_bytes index_packet
levels-made = (refl, refl, refl)

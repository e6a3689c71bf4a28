-- A case that computes: the written form of twenty records in chunks of sixteen, byte for byte. It has two chunks, of
-- sixteen and of four records, each in one packet with the restart flag, and an index packet with an entry for each.
use Rattle.std.proofs.Common.{◌≡◌, ℕ, ◌+◌, ◌*◌, ◌%◌, ◌≤◌, ◌^◌, List, [], ◌∷◌, ◌++◌, refl, sym, ap, subst, ◌∙◌, lit<, lit≤, map}
use Rattle.e57_layout.specs.Bytes.{low_bytes, joined, packed}
use Rattle.e57_layout.specs.Headers.{section_head}
use Rattle.e57_layout.specs.Packets.{packet_head, whole_words, padding, data_size, stream_lengths, data_packet}
use Rattle.e57_layout.specs.IndexPackets.{index_head, entry_bytes, index_packet}
use Rattle.e57_layout.specs.Widths.{bit_length, width}
use Rattle.e57_layout.specs.Strings.{string_prefix, string_bytes_of}
use Rattle.e57_layout.specs.Items.{stored, octets_of, field_bytes}
use Rattle.e57_layout.specs.Packing.{first_records, later_records, cut_blocks, blocks, group_streams, join_streams, fits_packet, packets_of, chunk_groups, chunk_packets}
use Rattle.e57_layout.specs.Written.{physical, packet_bytes, flagged, chunk_spelled, chunks_spelled, chunk_entries, cut_runs, entry_runs, level_spelled, upper_entries, index_spelled, root_place, data_spelled, packets_spelled, section_spelled}
use Rattle.e57_layout.specs.Values.{ItemKind, integers, words, strings, Value, whole, word, octets}
use Rattle.e57_pieces.specs.declared.piece.Attr.{Attr}
use Rattle.e57_pieces.specs.Words.{is_space, is_decimal, numeral_from, begins_name, goes_on_name}
use Rattle.e57_elements.specs.Tree.{Element, element, Elements, none, more, preorder}
use Rattle.e57_elements.specs.Spelling.{text_byte, value_byte}
use Rattle.e57_nodes.specs.Facts.{facts_of, type_in, type_named, value_of, signed_in, unsigned_in, signed_from, unsigned_from, digits_below, when_below, trimmed, without_space, precision_named, is_integer_text}
use Rattle.e57_nodes.specs.Items.{stated_item}
use Rattle.e57_nodes.specs.Fields.{fields_of, child_named}
use Rattle.e57_nodes.specs.Places.{stated_place, with_value}
use Rattle.e57_crc.specs.Crc.{crc, shifted, register}
use Rattle.e57_bits.specs.Bits.{bit}
use Rattle.e57_page_out.specs.Sealed.{page_bytes, sealed, filled, pages_for}
use Rattle.e57_page_out.specs.HeaderBytes.{header_bytes}
use Rattle.e57_verdict.specs.Things.{records_body}
use Rattle.e57_verdict.specs.Content.{Content, IsContent}
use Rattle.e57_plain.specs.Written.{whole_pages, xml_page, page_count, file_header, finished_bytes, finished, body_section, sections_from, offsets_from, sections_of, written_tree, written_text, plain, Fits, IsWritable}
use Rattle.std.specs.Fmt.{digits}
use Rattle.e57_plain.proofs.Laws.Whole.{plain-is, AreSpelled, plain-content, plain-accepted}
use Rattle.std.specs.Prelude.{pos, replicate, codes, length}
use Rattle.e57_pieces.specs.Characters.{is_character}
use Rattle.e57_elements.specs.Lawful.{IsLawful}
use Rattle.e57_nodes.specs.Typed.{type_fault, name_fault, child_fault, attr_fault, limits_fault, compressed_vector_fault, node_fault}
use Rattle.e57_verdict.specs.Verdict.{IsVerdict, accepted}
use Rattle.e57_plain.specs.Valid.{IsValid}
use Rattle.e57_plain.proofs.Lawful.{nodes}
use Rattle.e57_plain.proofs.Columns.{valid-columns}

-- ---- one cloud of twenty records: scaled integers, integers, a constant field, floating point numbers, strings

abbrev attr : List ℕ → List ℕ → Attr
attr name value = record { name = name; value = value }

abbrev typed : List ℕ → List Attr
typed name = attr (codes "type") name ∷ []

abbrev scaled_node : List ℕ → Element
scaled_node name =
    element name
    (attr (codes "type") (codes "ScaledInteger") ∷ attr (codes "minimum") (codes "0") ∷ attr (codes "maximum") (codes "1048575")
    ∷ attr (codes "scale") (codes "0.001") ∷ attr (codes "offset") (codes "0") ∷ [])
    [] none

abbrev integer_node : List ℕ → List ℕ → Element
integer_node name high = element name (attr (codes "type") (codes "Integer") ∷ attr (codes "minimum") (codes "0") ∷ attr (codes "maximum") high ∷ []) [] none

abbrev fields : Elements
fields =
    more (scaled_node (codes "cartesianX"))
    (more (scaled_node (codes "cartesianY"))
    (more (integer_node (codes "intensity") (codes "255"))
    (more (integer_node (codes "rowIndex") (codes "0"))
    (more (element (codes "cartesianZ") (attr (codes "type") (codes "Float") ∷ attr (codes "precision") (codes "single") ∷ []) [] none)
    (more (element (codes "tag") (typed (codes "String")) [] none) none)))))

abbrev cloud : Element
cloud =
    element (codes "points") (attr (codes "type") (codes "CompressedVector") ∷ attr (codes "fileOffset") (codes "0") ∷ attr (codes "recordCount") (codes "20") ∷ []) []
    (more (element (codes "prototype") (typed (codes "Structure")) [] fields) none)

abbrev tree : Element
tree =
    element (codes "e57Root") (attr (codes "type") (codes "Structure") ∷ attr (codes "xmlns") (codes "http://www.astm.org/COMMIT/E57/2010-e57-v1.0") ∷ []) []
    (more (element (codes "data3D") (typed (codes "Vector")) []
    (more (element (codes "vectorChild") (typed (codes "Structure")) [] (more cloud none)) none)) none)

-- the numbers of the records
abbrev records : List ℕ
records = 0 ∷ 1 ∷ 2 ∷ 3 ∷ 4 ∷ 5 ∷ 6 ∷ 7 ∷ 8 ∷ 9 ∷ 10 ∷ 11 ∷ 12 ∷ 13 ∷ 14 ∷ 15 ∷ 16 ∷ 17 ∷ 18 ∷ 19 ∷ []

-- a column for each field, by the number of the record
abbrev columns : List (List Value)
columns =
    map (λ i. whole (pos (3 * i))) records
    ∷ map (λ i. whole (pos (5 * i))) records
    ∷ map (λ i. whole (pos i)) records
    ∷ map (λ i. whole (pos 0)) records
    ∷ map (λ i. word (0x3F80_0000 + i)) records
    ∷ map (λ i. octets (replicate (i % 4) 97)) records
    ∷ []

abbrev content : Content
content = record { tree = tree; bodies = records_body columns ∷ [] }

-- ---- its file of three pages: the header, the section, the text

abbrev header : List ℕ
header = 65 ∷ 83 ∷ 84 ∷ 77 ∷ 45 ∷ 69 ∷ 53 ∷ 55 ∷ 1 ∷ 0 ∷ 0 ∷ 0 ∷ 0 ∷ 0 ∷ 0 ∷ 0 ∷ 0 ∷ 12 ∷ 0 ∷ 0 ∷ 0 ∷ 0 ∷ 0 ∷ 0 ∷ 0 ∷ 8 ∷ 0 ∷ 0 ∷ 0 ∷ 0 ∷ 0 ∷ 0 ∷ 153 ∷ 2 ∷ 0 ∷ 0 ∷ 0 ∷ 0 ∷ 0 ∷ 0 ∷ 0 ∷ 4 ∷ 0 ∷ 0 ∷ 0 ∷ 0 ∷ 0 ∷ 0 ∷ []

abbrev section : List ℕ
section = 1 ∷ 0 ∷ 0 ∷ 0 ∷ 0 ∷ 0 ∷ 0 ∷ 0 ∷ 112 ∷ 1 ∷ 0 ∷ 0 ∷ 0 ∷ 0 ∷ 0 ∷ 0 ∷ 32 ∷ 4 ∷ 0 ∷ 0 ∷ 0 ∷ 0 ∷ 0 ∷ 0 ∷ 64 ∷ 5 ∷ 0 ∷ 0 ∷ 0 ∷ 0 ∷ 0 ∷ 0 ∷ 1 ∷ 1 ∷ 219 ∷ 0 ∷ 6 ∷ 0 ∷ 40 ∷ 0 ∷ 40 ∷ 0 ∷ 16 ∷ 0 ∷ 0 ∷ 0 ∷ 64 ∷ 0 ∷ 40 ∷ 0 ∷ 0 ∷ 0 ∷ 48 ∷ 0 ∷ 0 ∷ 6 ∷ 0 ∷ 144 ∷ 0 ∷ 0 ∷ 12 ∷ 0 ∷ 240 ∷ 0 ∷ 0 ∷ 18 ∷ 0 ∷ 80 ∷ 1 ∷ 0 ∷ 24 ∷ 0 ∷ 176 ∷ 1 ∷ 0 ∷ 30 ∷ 0 ∷ 16 ∷ 2 ∷ 0 ∷ 36 ∷ 0 ∷ 112 ∷ 2 ∷ 0 ∷ 42 ∷ 0 ∷ 208 ∷ 2 ∷ 0 ∷ 0 ∷ 0 ∷ 80 ∷ 0 ∷ 0 ∷ 10 ∷ 0 ∷ 240 ∷ 0 ∷ 0 ∷ 20 ∷ 0 ∷ 144 ∷ 1 ∷ 0 ∷ 30 ∷ 0 ∷ 48 ∷ 2 ∷ 0 ∷ 40 ∷ 0 ∷ 208 ∷ 2 ∷ 0 ∷ 50 ∷ 0 ∷ 112 ∷ 3 ∷ 0 ∷ 60 ∷ 0 ∷ 16 ∷ 4 ∷ 0 ∷ 70 ∷ 0 ∷ 176 ∷ 4 ∷ 0 ∷ 0 ∷ 1 ∷ 2 ∷ 3 ∷ 4 ∷ 5 ∷ 6 ∷ 7 ∷ 8 ∷ 9 ∷ 10 ∷ 11 ∷ 12 ∷ 13 ∷ 14 ∷ 15 ∷ 0 ∷ 0 ∷ 128 ∷ 63 ∷ 1 ∷ 0 ∷ 128 ∷ 63 ∷ 2 ∷ 0 ∷ 128 ∷ 63 ∷ 3 ∷ 0 ∷ 128 ∷ 63 ∷ 4 ∷ 0 ∷ 128 ∷ 63 ∷ 5 ∷ 0 ∷ 128 ∷ 63 ∷ 6 ∷ 0 ∷ 128 ∷ 63 ∷ 7 ∷ 0 ∷ 128 ∷ 63 ∷ 8 ∷ 0 ∷ 128 ∷ 63 ∷ 9 ∷ 0 ∷ 128 ∷ 63 ∷ 10 ∷ 0 ∷ 128 ∷ 63 ∷ 11 ∷ 0 ∷ 128 ∷ 63 ∷ 12 ∷ 0 ∷ 128 ∷ 63 ∷ 13 ∷ 0 ∷ 128 ∷ 63 ∷ 14 ∷ 0 ∷ 128 ∷ 63 ∷ 15 ∷ 0 ∷ 128 ∷ 63 ∷ 0 ∷ 2 ∷ 97 ∷ 4 ∷ 97 ∷ 97 ∷ 6 ∷ 97 ∷ 97 ∷ 97 ∷ 0 ∷ 2 ∷ 97 ∷ 4 ∷ 97 ∷ 97 ∷ 6 ∷ 97 ∷ 97 ∷ 97 ∷ 0 ∷ 2 ∷ 97 ∷ 4 ∷ 97 ∷ 97 ∷ 6 ∷ 97 ∷ 97 ∷ 97 ∷ 0 ∷ 2 ∷ 97 ∷ 4 ∷ 97 ∷ 97 ∷ 6 ∷ 97 ∷ 97 ∷ 97 ∷ 0 ∷ 0 ∷ 1 ∷ 1 ∷ 67 ∷ 0 ∷ 6 ∷ 0 ∷ 10 ∷ 0 ∷ 10 ∷ 0 ∷ 4 ∷ 0 ∷ 0 ∷ 0 ∷ 16 ∷ 0 ∷ 10 ∷ 0 ∷ 48 ∷ 0 ∷ 48 ∷ 3 ∷ 0 ∷ 54 ∷ 0 ∷ 144 ∷ 3 ∷ 0 ∷ 80 ∷ 0 ∷ 80 ∷ 5 ∷ 0 ∷ 90 ∷ 0 ∷ 240 ∷ 5 ∷ 0 ∷ 16 ∷ 17 ∷ 18 ∷ 19 ∷ 16 ∷ 0 ∷ 128 ∷ 63 ∷ 17 ∷ 0 ∷ 128 ∷ 63 ∷ 18 ∷ 0 ∷ 128 ∷ 63 ∷ 19 ∷ 0 ∷ 128 ∷ 63 ∷ 0 ∷ 2 ∷ 97 ∷ 4 ∷ 97 ∷ 97 ∷ 6 ∷ 97 ∷ 97 ∷ 97 ∷ 0 ∷ 0 ∷ 47 ∷ 0 ∷ 2 ∷ 0 ∷ 0 ∷ 0 ∷ 0 ∷ 0 ∷ 0 ∷ 0 ∷ 0 ∷ 0 ∷ 0 ∷ 0 ∷ 0 ∷ 0 ∷ 0 ∷ 0 ∷ 0 ∷ 0 ∷ 0 ∷ 0 ∷ 32 ∷ 4 ∷ 0 ∷ 0 ∷ 0 ∷ 0 ∷ 0 ∷ 0 ∷ 16 ∷ 0 ∷ 0 ∷ 0 ∷ 0 ∷ 0 ∷ 0 ∷ 0 ∷ 252 ∷ 4 ∷ 0 ∷ 0 ∷ 0 ∷ 0 ∷ 0 ∷ 0 ∷ []

abbrev text : List ℕ
text = 60 ∷ 63 ∷ 120 ∷ 109 ∷ 108 ∷ 32 ∷ 118 ∷ 101 ∷ 114 ∷ 115 ∷ 105 ∷ 111 ∷ 110 ∷ 61 ∷ 34 ∷ 49 ∷ 46 ∷ 48 ∷ 34 ∷ 32 ∷ 101 ∷ 110 ∷ 99 ∷ 111 ∷ 100 ∷ 105 ∷ 110 ∷ 103 ∷ 61 ∷ 34 ∷ 85 ∷ 84 ∷ 70 ∷ 45 ∷ 56 ∷ 34 ∷ 63 ∷ 62 ∷ 10 ∷ 60 ∷ 101 ∷ 53 ∷ 55 ∷ 82 ∷ 111 ∷ 111 ∷ 116 ∷ 32 ∷ 116 ∷ 121 ∷ 112 ∷ 101 ∷ 61 ∷ 34 ∷ 83 ∷ 116 ∷ 114 ∷ 117 ∷ 99 ∷ 116 ∷ 117 ∷ 114 ∷ 101 ∷ 34 ∷ 32 ∷ 120 ∷ 109 ∷ 108 ∷ 110 ∷ 115 ∷ 61 ∷ 34 ∷ 104 ∷ 116 ∷ 116 ∷ 112 ∷ 58 ∷ 47 ∷ 47 ∷ 119 ∷ 119 ∷ 119 ∷ 46 ∷ 97 ∷ 115 ∷ 116 ∷ 109 ∷ 46 ∷ 111 ∷ 114 ∷ 103 ∷ 47 ∷ 67 ∷ 79 ∷ 77 ∷ 77 ∷ 73 ∷ 84 ∷ 47 ∷ 69 ∷ 53 ∷ 55 ∷ 47 ∷ 50 ∷ 48 ∷ 49 ∷ 48 ∷ 45 ∷ 101 ∷ 53 ∷ 55 ∷ 45 ∷ 118 ∷ 49 ∷ 46 ∷ 48 ∷ 34 ∷ 62 ∷ 60 ∷ 100 ∷ 97 ∷ 116 ∷ 97 ∷ 51 ∷ 68 ∷ 32 ∷ 116 ∷ 121 ∷ 112 ∷ 101 ∷ 61 ∷ 34 ∷ 86 ∷ 101 ∷ 99 ∷ 116 ∷ 111 ∷ 114 ∷ 34 ∷ 62 ∷ 60 ∷ 118 ∷ 101 ∷ 99 ∷ 116 ∷ 111 ∷ 114 ∷ 67 ∷ 104 ∷ 105 ∷ 108 ∷ 100 ∷ 32 ∷ 116 ∷ 121 ∷ 112 ∷ 101 ∷ 61 ∷ 34 ∷ 83 ∷ 116 ∷ 114 ∷ 117 ∷ 99 ∷ 116 ∷ 117 ∷ 114 ∷ 101 ∷ 34 ∷ 62 ∷ 60 ∷ 112 ∷ 111 ∷ 105 ∷ 110 ∷ 116 ∷ 115 ∷ 32 ∷ 116 ∷ 121 ∷ 112 ∷ 101 ∷ 61 ∷ 34 ∷ 67 ∷ 111 ∷ 109 ∷ 112 ∷ 114 ∷ 101 ∷ 115 ∷ 115 ∷ 101 ∷ 100 ∷ 86 ∷ 101 ∷ 99 ∷ 116 ∷ 111 ∷ 114 ∷ 34 ∷ 32 ∷ 102 ∷ 105 ∷ 108 ∷ 101 ∷ 79 ∷ 102 ∷ 102 ∷ 115 ∷ 101 ∷ 116 ∷ 61 ∷ 34 ∷ 49 ∷ 48 ∷ 50 ∷ 52 ∷ 34 ∷ 32 ∷ 114 ∷ 101 ∷ 99 ∷ 111 ∷ 114 ∷ 100 ∷ 67 ∷ 111 ∷ 117 ∷ 110 ∷ 116 ∷ 61 ∷ 34 ∷ 50 ∷ 48 ∷ 34 ∷ 62 ∷ 60 ∷ 112 ∷ 114 ∷ 111 ∷ 116 ∷ 111 ∷ 116 ∷ 121 ∷ 112 ∷ 101 ∷ 32 ∷ 116 ∷ 121 ∷ 112 ∷ 101 ∷ 61 ∷ 34 ∷ 83 ∷ 116 ∷ 114 ∷ 117 ∷ 99 ∷ 116 ∷ 117 ∷ 114 ∷ 101 ∷ 34 ∷ 62 ∷ 60 ∷ 99 ∷ 97 ∷ 114 ∷ 116 ∷ 101 ∷ 115 ∷ 105 ∷ 97 ∷ 110 ∷ 88 ∷ 32 ∷ 116 ∷ 121 ∷ 112 ∷ 101 ∷ 61 ∷ 34 ∷ 83 ∷ 99 ∷ 97 ∷ 108 ∷ 101 ∷ 100 ∷ 73 ∷ 110 ∷ 116 ∷ 101 ∷ 103 ∷ 101 ∷ 114 ∷ 34 ∷ 32 ∷ 109 ∷ 105 ∷ 110 ∷ 105 ∷ 109 ∷ 117 ∷ 109 ∷ 61 ∷ 34 ∷ 48 ∷ 34 ∷ 32 ∷ 109 ∷ 97 ∷ 120 ∷ 105 ∷ 109 ∷ 117 ∷ 109 ∷ 61 ∷ 34 ∷ 49 ∷ 48 ∷ 52 ∷ 56 ∷ 53 ∷ 55 ∷ 53 ∷ 34 ∷ 32 ∷ 115 ∷ 99 ∷ 97 ∷ 108 ∷ 101 ∷ 61 ∷ 34 ∷ 48 ∷ 46 ∷ 48 ∷ 48 ∷ 49 ∷ 34 ∷ 32 ∷ 111 ∷ 102 ∷ 102 ∷ 115 ∷ 101 ∷ 116 ∷ 61 ∷ 34 ∷ 48 ∷ 34 ∷ 47 ∷ 62 ∷ 60 ∷ 99 ∷ 97 ∷ 114 ∷ 116 ∷ 101 ∷ 115 ∷ 105 ∷ 97 ∷ 110 ∷ 89 ∷ 32 ∷ 116 ∷ 121 ∷ 112 ∷ 101 ∷ 61 ∷ 34 ∷ 83 ∷ 99 ∷ 97 ∷ 108 ∷ 101 ∷ 100 ∷ 73 ∷ 110 ∷ 116 ∷ 101 ∷ 103 ∷ 101 ∷ 114 ∷ 34 ∷ 32 ∷ 109 ∷ 105 ∷ 110 ∷ 105 ∷ 109 ∷ 117 ∷ 109 ∷ 61 ∷ 34 ∷ 48 ∷ 34 ∷ 32 ∷ 109 ∷ 97 ∷ 120 ∷ 105 ∷ 109 ∷ 117 ∷ 109 ∷ 61 ∷ 34 ∷ 49 ∷ 48 ∷ 52 ∷ 56 ∷ 53 ∷ 55 ∷ 53 ∷ 34 ∷ 32 ∷ 115 ∷ 99 ∷ 97 ∷ 108 ∷ 101 ∷ 61 ∷ 34 ∷ 48 ∷ 46 ∷ 48 ∷ 48 ∷ 49 ∷ 34 ∷ 32 ∷ 111 ∷ 102 ∷ 102 ∷ 115 ∷ 101 ∷ 116 ∷ 61 ∷ 34 ∷ 48 ∷ 34 ∷ 47 ∷ 62 ∷ 60 ∷ 105 ∷ 110 ∷ 116 ∷ 101 ∷ 110 ∷ 115 ∷ 105 ∷ 116 ∷ 121 ∷ 32 ∷ 116 ∷ 121 ∷ 112 ∷ 101 ∷ 61 ∷ 34 ∷ 73 ∷ 110 ∷ 116 ∷ 101 ∷ 103 ∷ 101 ∷ 114 ∷ 34 ∷ 32 ∷ 109 ∷ 105 ∷ 110 ∷ 105 ∷ 109 ∷ 117 ∷ 109 ∷ 61 ∷ 34 ∷ 48 ∷ 34 ∷ 32 ∷ 109 ∷ 97 ∷ 120 ∷ 105 ∷ 109 ∷ 117 ∷ 109 ∷ 61 ∷ 34 ∷ 50 ∷ 53 ∷ 53 ∷ 34 ∷ 47 ∷ 62 ∷ 60 ∷ 114 ∷ 111 ∷ 119 ∷ 73 ∷ 110 ∷ 100 ∷ 101 ∷ 120 ∷ 32 ∷ 116 ∷ 121 ∷ 112 ∷ 101 ∷ 61 ∷ 34 ∷ 73 ∷ 110 ∷ 116 ∷ 101 ∷ 103 ∷ 101 ∷ 114 ∷ 34 ∷ 32 ∷ 109 ∷ 105 ∷ 110 ∷ 105 ∷ 109 ∷ 117 ∷ 109 ∷ 61 ∷ 34 ∷ 48 ∷ 34 ∷ 32 ∷ 109 ∷ 97 ∷ 120 ∷ 105 ∷ 109 ∷ 117 ∷ 109 ∷ 61 ∷ 34 ∷ 48 ∷ 34 ∷ 47 ∷ 62 ∷ 60 ∷ 99 ∷ 97 ∷ 114 ∷ 116 ∷ 101 ∷ 115 ∷ 105 ∷ 97 ∷ 110 ∷ 90 ∷ 32 ∷ 116 ∷ 121 ∷ 112 ∷ 101 ∷ 61 ∷ 34 ∷ 70 ∷ 108 ∷ 111 ∷ 97 ∷ 116 ∷ 34 ∷ 32 ∷ 112 ∷ 114 ∷ 101 ∷ 99 ∷ 105 ∷ 115 ∷ 105 ∷ 111 ∷ 110 ∷ 61 ∷ 34 ∷ 115 ∷ 105 ∷ 110 ∷ 103 ∷ 108 ∷ 101 ∷ 34 ∷ 47 ∷ 62 ∷ 60 ∷ 116 ∷ 97 ∷ 103 ∷ 32 ∷ 116 ∷ 121 ∷ 112 ∷ 101 ∷ 61 ∷ 34 ∷ 83 ∷ 116 ∷ 114 ∷ 105 ∷ 110 ∷ 103 ∷ 34 ∷ 47 ∷ 62 ∷ 60 ∷ 47 ∷ 112 ∷ 114 ∷ 111 ∷ 116 ∷ 111 ∷ 116 ∷ 121 ∷ 112 ∷ 101 ∷ 62 ∷ 60 ∷ 47 ∷ 112 ∷ 111 ∷ 105 ∷ 110 ∷ 116 ∷ 115 ∷ 62 ∷ 60 ∷ 47 ∷ 118 ∷ 101 ∷ 99 ∷ 116 ∷ 111 ∷ 114 ∷ 67 ∷ 104 ∷ 105 ∷ 108 ∷ 100 ∷ 62 ∷ 60 ∷ 47 ∷ 100 ∷ 97 ∷ 116 ∷ 97 ∷ 51 ∷ 68 ∷ 62 ∷ 60 ∷ 47 ∷ 101 ∷ 53 ∷ 55 ∷ 82 ∷ 111 ∷ 111 ∷ 116 ∷ 62 ∷ []

sections-spelled : sections_of 16 content ≡ section ++ replicate 652 0
unfolding low_bytes section_head packet_head whole_words padding data_size stream_lengths data_packet index_head entry_bytes index_packet joined packed bit_length width string_prefix string_bytes_of stored octets_of field_bytes first_records later_records cut_blocks blocks group_streams join_streams fits_packet packets_of chunk_groups chunk_packets physical packet_bytes flagged chunk_spelled chunks_spelled chunk_entries cut_runs entry_runs level_spelled upper_entries index_spelled root_place data_spelled packets_spelled section_spelled facts_of type_in type_named value_of signed_in unsigned_in signed_from unsigned_from digits_below when_below trimmed without_space is_space is_decimal numeral_from precision_named is_integer_text stated_item fields_of child_named stated_place with_value whole_pages filled pages_for body_section sections_from offsets_from digits
sections-spelled = refl

text-spelled : written_text 16 content ≡ text
unfolding low_bytes section_head packet_head whole_words padding data_size stream_lengths data_packet index_head entry_bytes index_packet joined packed bit_length width string_prefix string_bytes_of stored octets_of field_bytes first_records later_records cut_blocks blocks group_streams join_streams fits_packet packets_of chunk_groups chunk_packets physical packet_bytes flagged chunk_spelled chunks_spelled chunk_entries cut_runs entry_runs level_spelled upper_entries index_spelled root_place data_spelled packets_spelled section_spelled facts_of type_in type_named value_of signed_in unsigned_in signed_from unsigned_from digits_below when_below trimmed without_space is_space is_decimal numeral_from precision_named is_integer_text stated_item fields_of child_named stated_place with_value whole_pages filled pages_for body_section sections_from offsets_from digits written_tree written_text text_byte value_byte
text-spelled = refl

-- the file: each page's payload, filled with zeros, and its checksum word
abbrev file : List ℕ
file =
    (header ++ (replicate 972 0 ++ (54 ∷ 62 ∷ 46 ∷ 60 ∷ [])))
    ++ ((section ++ (replicate 652 0 ++ (57 ∷ 153 ∷ 181 ∷ 73 ∷ [])))
    ++ (text ++ (replicate 355 0 ++ (132 ∷ 143 ∷ 39 ∷ 233 ∷ []))))

file-finished : finished (section ++ replicate 652 0) text ≡ file
unfolding finished sealed page_bytes finished_bytes file_header page_count xml_page whole_pages filled pages_for header_bytes low_bytes physical crc register shifted bit
file-finished = refl

file-written : plain 16 content ≡ file
file-written = plain-is 16 content ∙ ap (λ (sections : List ℕ). finished sections (written_text 16 content)) sections-spelled ∙ ap (finished (section ++ replicate 652 0)) text-spelled ∙ file-finished

-- ---- the content is valid, and its written form within the limits: so the file is accepted, and has this content

-- what the items of the fields are
abbrev kinds : List ItemKind
kinds = integers (pos 0) (pos 1048575) ∷ integers (pos 0) (pos 1048575) ∷ integers (pos 0) (pos 255) ∷ integers (pos 0) (pos 0) ∷ words 32 ∷ strings ∷ []

tree-lawful : IsLawful tree
unfolding is_character begins_name goes_on_name
tree-lawful = record { each = nodes (preorder tree) refl; not_deep = lit≤ tt; not_large = lit≤ tt }

content-valid : IsValid content
unfolding facts_of type_in type_named value_of signed_in unsigned_in signed_from unsigned_from digits_below when_below trimmed without_space is_space is_decimal numeral_from precision_named is_integer_text stated_item fields_of child_named stated_place with_value type_fault name_fault child_fault attr_fault limits_fault compressed_vector_fault node_fault bit_length width digits
content-valid = record {
  is_lawful = tree-lawful;
  typed = refl;
  no_places = refl;
  bodies = (valid-columns kinds 20 columns refl, tt);
}

file-fits : Fits 16 content
file-fits = record {
  text = subst (λ (bytes : List ℕ). length bytes ≤ 2 ^ 26) (sym text-spelled) (lit≤ tt);
  file = subst (λ (bytes : List ℕ). length bytes ≤ 2 ^ 48) (sym file-written) (lit≤ tt);
}

content-writable : IsWritable 16 content
content-writable = record { chunk = lit< tt; valid = content-valid; fits = file-fits }

file-accepted : AreSpelled → IsVerdict file (accepted 1 0 20) × IsContent file content
unfolding facts_of type_in type_named value_of signed_in unsigned_in signed_from unsigned_from digits_below when_below trimmed without_space is_space is_decimal numeral_from precision_named is_integer_text stated_item fields_of child_named stated_place with_value digits bit_length width
file-accepted spelled = (
  subst (λ (bytes : List ℕ). IsVerdict bytes (accepted 1 0 20)) file-written (plain-accepted spelled 16 content content-writable),
  subst (λ (bytes : List ℕ). IsContent bytes content) file-written (plain-content spelled 16 content content-writable),
)

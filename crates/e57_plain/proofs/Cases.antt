-- Cases that compute: the written form of a small content, byte for byte; its narrow limits; some of its records and fields.
use Rattle.std.proofs.Common.{◌≡◌, ℕ, ◌≤◌, ◌^◌, List, [], ◌∷◌, ◌++◌, refl, sym, ap, subst, ◌∙◌, arith, lit<, lit≤}
use Rattle.e57_layout.specs.Bytes.{low_bytes, joined, packed}
use Rattle.e57_layout.specs.Headers.{section_head}
use Rattle.e57_layout.specs.Packets.{packet_head, whole_words, padding, data_size, stream_lengths, data_packet}
use Rattle.e57_layout.specs.IndexPackets.{index_head, entry_bytes, index_packet}
use Rattle.e57_layout.specs.Widths.{bit_length, width}
use Rattle.e57_layout.specs.Strings.{string_prefix, string_bytes_of}
use Rattle.e57_layout.specs.Items.{stored, octets_of, field_bytes}
use Rattle.e57_layout.specs.Packing.{first_records, later_records, cut_blocks, blocks, group_streams, join_streams, fits_packet, packets_of, chunk_groups, chunk_packets}
use Rattle.e57_layout.specs.Written.{physical, packet_bytes, flagged, chunk_spelled, chunks_spelled, chunk_entries, cut_runs, entry_runs, level_spelled, upper_entries, index_spelled, root_place, data_spelled, packets_spelled, section_spelled}
use Rattle.e57_layout.specs.Values.{whole, word, octets}
use Rattle.e57_pieces.specs.declared.piece.Attr.{Attr}
use Rattle.e57_pieces.specs.Words.{is_space, is_decimal, numeral_from, begins_name, goes_on_name}
use Rattle.e57_elements.specs.Tree.{Element, element, Elements, none, more, preorder}
use Rattle.e57_elements.specs.Spelling.{text_byte, value_byte}
use Rattle.e57_nodes.specs.Facts.{facts_of, type_in, type_named, value_of, signed_in, unsigned_in, signed_from, unsigned_from, digits_below, when_below, trimmed, without_space, precision_named, is_integer_text}
use Rattle.e57_nodes.specs.Items.{stated_item}
use Rattle.e57_nodes.specs.Fields.{fields_of, child_named}
use Rattle.e57_nodes.specs.Places.{stated_place, with_value}
use Rattle.e57_crc.specs.Crc.{crc, shifted, register}
use Rattle.e57_bits.specs.Bits.{bit}
use Rattle.e57_page_out.specs.Sealed.{page_bytes, sealed, filled, pages_for}
use Rattle.e57_page_out.specs.HeaderBytes.{header_bytes}
use Rattle.e57_verdict.specs.Things.{records_body}
use Rattle.e57_verdict.specs.Content.{Content, IsContent}
use Rattle.e57_plain.specs.Written.{whole_pages, xml_page, page_count, file_header, finished_bytes, finished, body_section, sections_from, offsets_from, sections_of, written_tree, written_text, plain, Fits, IsWritable}
use Rattle.std.specs.Fmt.{digits}
use Rattle.e57_nodes.specs.Limits.{with_value_or_new, has_room}
use Rattle.e57_plain.specs.Tight.{range_in, tight}
use Rattle.e57_plain.specs.Kept.{Selection, passes, kept}
use Rattle.e57_plain.proofs.Laws.Whole.{plain-is, AreSpelled, plain-content, plain-accepted}
use Rattle.std.specs.Prelude.{pos, replicate, codes, length, true, false}
use Rattle.std.proofs.lemmas.Int.{ints}
use Rattle.e57_pieces.specs.Characters.{is_character}
use Rattle.e57_elements.specs.Lawful.{IsLawful}
use Rattle.e57_nodes.specs.Typed.{type_fault, name_fault, child_fault, attr_fault, limits_fault, compressed_vector_fault, node_fault}
use Rattle.e57_verdict.specs.Verdict.{IsVerdict, accepted}
use Rattle.e57_plain.specs.Valid.{IsValid}
use Rattle.e57_plain.proofs.Lawful.{nodes}

-- ---- one cloud of three records: integers, a constant field, floating point numbers, strings

abbrev attr : List ℕ → List ℕ → Attr
attr name value = record { name = name; value = value }

abbrev typed : List ℕ → List Attr
typed name = attr (codes "type") name ∷ []

abbrev integer_node : List ℕ → List ℕ → List ℕ → Element
integer_node name low high = element name (attr (codes "type") (codes "Integer") ∷ attr (codes "minimum") low ∷ attr (codes "maximum") high ∷ []) [] none

abbrev s_fields : Elements
s_fields =
    more (integer_node (codes "x") (codes "0") (codes "7"))
    (more (integer_node (codes "c") (codes "5") (codes "5"))
    (more (element (codes "f") (attr (codes "type") (codes "Float") ∷ attr (codes "precision") (codes "single") ∷ []) [] none)
    (more (element (codes "s") (typed (codes "String")) [] none) none)))

abbrev s_tree : Element
s_tree =
    element (codes "e57Root") (typed (codes "Structure")) []
    (more (element (codes "p") (attr (codes "type") (codes "CompressedVector") ∷ attr (codes "fileOffset") (codes "0") ∷ attr (codes "recordCount") (codes "3") ∷ []) []
    (more (element (codes "prototype") (typed (codes "Structure")) [] s_fields) none)) none)

abbrev s_content : Content
s_content = record {
  tree = s_tree;
  bodies =
      records_body ((whole (pos 1) ∷ whole (pos 6) ∷ whole (pos 7) ∷ []) ∷ (whole (pos 5) ∷ whole (pos 5) ∷ whole (pos 5) ∷ [])
      ∷ (word 0x3F80_0000 ∷ word 0x4000_0000 ∷ word 0 ∷ []) ∷ (octets [] ∷ octets (codes "abc") ∷ octets (codes "q") ∷ []) ∷ []) ∷ [];
}

abbrev s_header : List ℕ
s_header = 65 ∷ 83 ∷ 84 ∷ 77 ∷ 45 ∷ 69 ∷ 53 ∷ 55 ∷ 1 ∷ 0 ∷ 0 ∷ 0 ∷ 0 ∷ 0 ∷ 0 ∷ 0 ∷ 0 ∷ 12 ∷ 0 ∷ 0 ∷ 0 ∷ 0 ∷ 0 ∷ 0 ∷ 0 ∷ 8 ∷ 0 ∷ 0 ∷ 0 ∷ 0 ∷ 0 ∷ 0 ∷ 64 ∷ 1 ∷ 0 ∷ 0 ∷ 0 ∷ 0 ∷ 0 ∷ 0 ∷ 0 ∷ 4 ∷ 0 ∷ 0 ∷ 0 ∷ 0 ∷ 0 ∷ 0 ∷ []

abbrev s_section : List ℕ
s_section = 1 ∷ 0 ∷ 0 ∷ 0 ∷ 0 ∷ 0 ∷ 0 ∷ 0 ∷ 100 ∷ 0 ∷ 0 ∷ 0 ∷ 0 ∷ 0 ∷ 0 ∷ 0 ∷ 32 ∷ 4 ∷ 0 ∷ 0 ∷ 0 ∷ 0 ∷ 0 ∷ 0 ∷ 68 ∷ 4 ∷ 0 ∷ 0 ∷ 0 ∷ 0 ∷ 0 ∷ 0 ∷ 1 ∷ 1 ∷ 35 ∷ 0 ∷ 4 ∷ 0 ∷ 2 ∷ 0 ∷ 0 ∷ 0 ∷ 12 ∷ 0 ∷ 7 ∷ 0 ∷ 241 ∷ 1 ∷ 0 ∷ 0 ∷ 128 ∷ 63 ∷ 0 ∷ 0 ∷ 0 ∷ 64 ∷ 0 ∷ 0 ∷ 0 ∷ 0 ∷ 0 ∷ 6 ∷ 97 ∷ 98 ∷ 99 ∷ 2 ∷ 113 ∷ 0 ∷ 0 ∷ 0 ∷ 31 ∷ 0 ∷ 1 ∷ 0 ∷ 0 ∷ 0 ∷ 0 ∷ 0 ∷ 0 ∷ 0 ∷ 0 ∷ 0 ∷ 0 ∷ 0 ∷ 0 ∷ 0 ∷ 0 ∷ 0 ∷ 0 ∷ 0 ∷ 0 ∷ 0 ∷ 32 ∷ 4 ∷ 0 ∷ 0 ∷ 0 ∷ 0 ∷ 0 ∷ 0 ∷ []

abbrev s_text : List ℕ
s_text = 60 ∷ 63 ∷ 120 ∷ 109 ∷ 108 ∷ 32 ∷ 118 ∷ 101 ∷ 114 ∷ 115 ∷ 105 ∷ 111 ∷ 110 ∷ 61 ∷ 34 ∷ 49 ∷ 46 ∷ 48 ∷ 34 ∷ 32 ∷ 101 ∷ 110 ∷ 99 ∷ 111 ∷ 100 ∷ 105 ∷ 110 ∷ 103 ∷ 61 ∷ 34 ∷ 85 ∷ 84 ∷ 70 ∷ 45 ∷ 56 ∷ 34 ∷ 63 ∷ 62 ∷ 10 ∷ 60 ∷ 101 ∷ 53 ∷ 55 ∷ 82 ∷ 111 ∷ 111 ∷ 116 ∷ 32 ∷ 116 ∷ 121 ∷ 112 ∷ 101 ∷ 61 ∷ 34 ∷ 83 ∷ 116 ∷ 114 ∷ 117 ∷ 99 ∷ 116 ∷ 117 ∷ 114 ∷ 101 ∷ 34 ∷ 62 ∷ 60 ∷ 112 ∷ 32 ∷ 116 ∷ 121 ∷ 112 ∷ 101 ∷ 61 ∷ 34 ∷ 67 ∷ 111 ∷ 109 ∷ 112 ∷ 114 ∷ 101 ∷ 115 ∷ 115 ∷ 101 ∷ 100 ∷ 86 ∷ 101 ∷ 99 ∷ 116 ∷ 111 ∷ 114 ∷ 34 ∷ 32 ∷ 102 ∷ 105 ∷ 108 ∷ 101 ∷ 79 ∷ 102 ∷ 102 ∷ 115 ∷ 101 ∷ 116 ∷ 61 ∷ 34 ∷ 49 ∷ 48 ∷ 50 ∷ 52 ∷ 34 ∷ 32 ∷ 114 ∷ 101 ∷ 99 ∷ 111 ∷ 114 ∷ 100 ∷ 67 ∷ 111 ∷ 117 ∷ 110 ∷ 116 ∷ 61 ∷ 34 ∷ 51 ∷ 34 ∷ 62 ∷ 60 ∷ 112 ∷ 114 ∷ 111 ∷ 116 ∷ 111 ∷ 116 ∷ 121 ∷ 112 ∷ 101 ∷ 32 ∷ 116 ∷ 121 ∷ 112 ∷ 101 ∷ 61 ∷ 34 ∷ 83 ∷ 116 ∷ 114 ∷ 117 ∷ 99 ∷ 116 ∷ 117 ∷ 114 ∷ 101 ∷ 34 ∷ 62 ∷ 60 ∷ 120 ∷ 32 ∷ 116 ∷ 121 ∷ 112 ∷ 101 ∷ 61 ∷ 34 ∷ 73 ∷ 110 ∷ 116 ∷ 101 ∷ 103 ∷ 101 ∷ 114 ∷ 34 ∷ 32 ∷ 109 ∷ 105 ∷ 110 ∷ 105 ∷ 109 ∷ 117 ∷ 109 ∷ 61 ∷ 34 ∷ 48 ∷ 34 ∷ 32 ∷ 109 ∷ 97 ∷ 120 ∷ 105 ∷ 109 ∷ 117 ∷ 109 ∷ 61 ∷ 34 ∷ 55 ∷ 34 ∷ 47 ∷ 62 ∷ 60 ∷ 99 ∷ 32 ∷ 116 ∷ 121 ∷ 112 ∷ 101 ∷ 61 ∷ 34 ∷ 73 ∷ 110 ∷ 116 ∷ 101 ∷ 103 ∷ 101 ∷ 114 ∷ 34 ∷ 32 ∷ 109 ∷ 105 ∷ 110 ∷ 105 ∷ 109 ∷ 117 ∷ 109 ∷ 61 ∷ 34 ∷ 53 ∷ 34 ∷ 32 ∷ 109 ∷ 97 ∷ 120 ∷ 105 ∷ 109 ∷ 117 ∷ 109 ∷ 61 ∷ 34 ∷ 53 ∷ 34 ∷ 47 ∷ 62 ∷ 60 ∷ 102 ∷ 32 ∷ 116 ∷ 121 ∷ 112 ∷ 101 ∷ 61 ∷ 34 ∷ 70 ∷ 108 ∷ 111 ∷ 97 ∷ 116 ∷ 34 ∷ 32 ∷ 112 ∷ 114 ∷ 101 ∷ 99 ∷ 105 ∷ 115 ∷ 105 ∷ 111 ∷ 110 ∷ 61 ∷ 34 ∷ 115 ∷ 105 ∷ 110 ∷ 103 ∷ 108 ∷ 101 ∷ 34 ∷ 47 ∷ 62 ∷ 60 ∷ 115 ∷ 32 ∷ 116 ∷ 121 ∷ 112 ∷ 101 ∷ 61 ∷ 34 ∷ 83 ∷ 116 ∷ 114 ∷ 105 ∷ 110 ∷ 103 ∷ 34 ∷ 47 ∷ 62 ∷ 60 ∷ 47 ∷ 112 ∷ 114 ∷ 111 ∷ 116 ∷ 111 ∷ 116 ∷ 121 ∷ 112 ∷ 101 ∷ 62 ∷ 60 ∷ 47 ∷ 112 ∷ 62 ∷ 60 ∷ 47 ∷ 101 ∷ 53 ∷ 55 ∷ 82 ∷ 111 ∷ 111 ∷ 116 ∷ 62 ∷ []

s-sections : sections_of 8192 s_content ≡ s_section ++ replicate 920 0
unfolding low_bytes section_head packet_head whole_words padding data_size stream_lengths data_packet index_head entry_bytes index_packet joined packed bit_length width string_prefix string_bytes_of stored octets_of field_bytes first_records later_records cut_blocks blocks group_streams join_streams fits_packet packets_of chunk_groups chunk_packets physical packet_bytes flagged chunk_spelled chunks_spelled chunk_entries cut_runs entry_runs level_spelled upper_entries index_spelled root_place data_spelled packets_spelled section_spelled facts_of type_in type_named value_of signed_in unsigned_in signed_from unsigned_from digits_below when_below trimmed without_space is_space is_decimal numeral_from precision_named is_integer_text stated_item fields_of child_named stated_place with_value whole_pages filled pages_for body_section sections_from offsets_from digits
s-sections = refl

s-text : written_text 8192 s_content ≡ s_text
unfolding low_bytes section_head packet_head whole_words padding data_size stream_lengths data_packet index_head entry_bytes index_packet joined packed bit_length width string_prefix string_bytes_of stored octets_of field_bytes first_records later_records cut_blocks blocks group_streams join_streams fits_packet packets_of chunk_groups chunk_packets physical packet_bytes flagged chunk_spelled chunks_spelled chunk_entries cut_runs entry_runs level_spelled upper_entries index_spelled root_place data_spelled packets_spelled section_spelled facts_of type_in type_named value_of signed_in unsigned_in signed_from unsigned_from digits_below when_below trimmed without_space is_space is_decimal numeral_from precision_named is_integer_text stated_item fields_of child_named stated_place with_value whole_pages filled pages_for body_section sections_from offsets_from digits written_tree written_text text_byte value_byte
s-text = refl

-- the file: each page's payload, filled with zeros, and its checksum word
abbrev s_file : List ℕ
s_file =
    (s_header ++ (replicate 972 0 ++ (33 ∷ 24 ∷ 99 ∷ 249 ∷ [])))
    ++ ((s_section ++ (replicate 920 0 ++ (209 ∷ 62 ∷ 78 ∷ 109 ∷ [])))
    ++ (s_text ++ (replicate 700 0 ++ (236 ∷ 204 ∷ 30 ∷ 108 ∷ []))))

s-finished : finished (s_section ++ replicate 920 0) s_text ≡ s_file
unfolding finished sealed page_bytes finished_bytes file_header page_count xml_page whole_pages filled pages_for header_bytes low_bytes physical crc register shifted bit
s-finished = refl

s-plain : plain 8192 s_content ≡ s_file
s-plain = plain-is 8192 s_content ∙ ap (λ (sections : List ℕ). finished sections (written_text 8192 s_content)) s-sections ∙ ap (finished (s_section ++ replicate 920 0)) s-text ∙ s-finished

-- ---- the content is valid, and its written form within the limits: so the file is accepted, and has this content

s-lawful : IsLawful s_tree
unfolding is_character begins_name goes_on_name
s-lawful = record { each = nodes (preorder s_tree) refl; not_deep = lit≤ tt; not_large = lit≤ tt }

s-valid : IsValid s_content
unfolding facts_of type_in type_named value_of signed_in unsigned_in signed_from unsigned_from digits_below when_below trimmed without_space is_space is_decimal numeral_from precision_named is_integer_text stated_item fields_of child_named stated_place with_value type_fault name_fault child_fault attr_fault limits_fault compressed_vector_fault node_fault bit_length width digits
s-valid = record {
  is_lawful = s-lawful;
  typed = refl;
  no_places = refl;
  bodies = (
    (
      refl,
      ((omega (arith, ints), omega (arith, ints)), ((omega (arith, ints), omega (arith, ints)), ((omega (arith, ints), omega (arith, ints)), tt))),
      (
        refl,
        ((omega (arith, ints), omega (arith, ints)), ((omega (arith, ints), omega (arith, ints)), ((omega (arith, ints), omega (arith, ints)), tt))),
        (
          refl,
          (lit< tt, (lit< tt, (lit< tt, tt))),
          (refl, (lit≤ tt, (lit≤ tt, (lit≤ tt, tt))), tt),
        ),
      ),
    ),
    tt,
  );
}

s-fits : Fits 8192 s_content
s-fits = record {
  text = subst (λ (text : List ℕ). length text ≤ 2 ^ 26) (sym s-text) (lit≤ tt);
  file = subst (λ (file : List ℕ). length file ≤ 2 ^ 48) (sym s-plain) (lit≤ tt);
}

s-writable : IsWritable 8192 s_content
s-writable = record { chunk = lit< tt; valid = s-valid; fits = s-fits }

s-accepted : AreSpelled → IsVerdict s_file (accepted 1 0 3) × IsContent s_file s_content
unfolding facts_of type_in type_named value_of signed_in unsigned_in signed_from unsigned_from digits_below when_below trimmed without_space is_space is_decimal numeral_from precision_named is_integer_text stated_item fields_of child_named stated_place with_value digits bit_length width
s-accepted spelled = (
  subst (λ (file : List ℕ). IsVerdict file (accepted 1 0 3)) s-plain (plain-accepted spelled 8192 s_content s-writable),
  subst (λ (file : List ℕ). IsContent file s_content) s-plain (plain-content spelled 8192 s_content s-writable),
)

-- ---- narrow limits, and some records and fields

-- the same tree with this cloud
abbrev s_tree_of : List ℕ → Elements → Element
s_tree_of count fields =
    element (codes "e57Root") (typed (codes "Structure")) []
    (more (element (codes "p") (attr (codes "type") (codes "CompressedVector") ∷ attr (codes "fileOffset") (codes "0") ∷ attr (codes "recordCount") count ∷ []) []
    (more (element (codes "prototype") (typed (codes "Structure")) [] fields) none)) none)

s-tight : (tight s_content).tree ≡ s_tree_of (codes "3")
    (more (integer_node (codes "x") (codes "1") (codes "7"))
    (more (integer_node (codes "c") (codes "5") (codes "5"))
    (more (element (codes "f") (attr (codes "type") (codes "Float") ∷ attr (codes "precision") (codes "single") ∷ []) [] none)
    (more (element (codes "s") (typed (codes "String")) [] none) none))))
unfolding tight range_in facts_of type_in type_named value_of signed_in unsigned_in signed_from unsigned_from digits_below when_below trimmed without_space is_space is_decimal numeral_from precision_named is_integer_text stated_item fields_of child_named stated_place with_value with_value_or_new has_room digits bit_length width
s-tight = refl

-- the first and the last field of the records whose first item is 6 or 7
abbrev six_or_seven : Selection
six_or_seven = record {
  cloud = 0;
  fields = true ∷ false ∷ false ∷ true ∷ [];
  from = 0;
  until = 3;
  every = 1;
  tests = record { field = 0; low = pos 6; high = pos 7 } ∷ [];
}

s-kept : kept six_or_seven s_content ≡ record {
  tree = s_tree_of (codes "2") (more (integer_node (codes "x") (codes "0") (codes "7")) (more (element (codes "s") (typed (codes "String")) [] none) none));
  bodies = records_body ((whole (pos 6) ∷ whole (pos 7) ∷ []) ∷ (octets (codes "abc") ∷ octets (codes "q") ∷ []) ∷ []) ∷ [];
}
unfolding kept passes facts_of type_in type_named value_of signed_in unsigned_in signed_from unsigned_from digits_below when_below trimmed without_space is_space is_decimal numeral_from precision_named is_integer_text stated_item fields_of child_named stated_place with_value digits
s-kept = refl

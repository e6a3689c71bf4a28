-- Laws of the end of a section: it is that of all records.
use Rattle.std.proofs.Common.{◌≡◌, ℕ, ◌+◌, ◌-◌, ◌*◌, ◌%◌, ◌<◌, ◌≤◌, false, List, ◌++◌, length, replicate, Option, Some, None, refl, sym, ap, subst, ◌∙◌, arith}
use Rattle.std.specs.Prelude.{IfSome}
use Rattle.std.specs.Option.{option_map}
use Rattle.std.proofs.lemmas.List.{append_assoc, length-append}
use Rattle.e57_base.specs.MemTarget.{with_piece}
use Rattle.e57_base.specs.Target.{TargetView}
use Rattle.e57_base.specs.Fault.{put_as_write}
use Rattle.e57_base.specs.declared.fault.PutFault.{PutFault}
use Rattle.e57_base.specs.declared.fault.WriteFault.{WriteFault}
use Rattle.e57_layout.specs.Headers.{section_head}
use Rattle.e57_layout.specs.Values.{ItemKind, Value}
use Rattle.e57_layout.specs.Packing.{first_records, flushed}
use Rattle.e57_layout.specs.Written.{Spelled, physical, packets_bytes, flagged, data_spelled, entries_for, index_place, index_spelled, most_levels, root_place, packets_spelled, header_for, section_spelled}
use Rattle.e57_layout.specs.declared.packet.Entry.{Entry}
use Rattle.e57_layout.specs.declared.section.SectionHeader.{SectionHeader}
use Rattle.e57_layout.proofs.Laws.Layouts.{length-section_head}
use Rattle.e57_layout.proofs.Laws.Written.{packets_bytes-append, length-packets_bytes-append}
use Rattle.e57_page_out.specs.Sealed.{filled, pages_for}
use Rattle.e57_page_out.specs.Sequences.{Loses}
use Rattle.e57_page_out.specs.Writing.{Writing, Writes, most_bytes}
use Rattle.e57_page_out.proofs.PieceLaws.{piece-between}
use Rattle.e57_page_out.proofs.WritingLaws.{keeps_both, length-filled}
use Rattle.e57_chunk_out.specs.Waiting.{Waiting}
use Rattle.e57_chunk_out.specs.SideBySide.{HasText}
use Rattle.e57_chunk_out.specs.Grouping.{kinds_of, columns_of, run_of}
use Rattle.e57_chunk_out.specs.Going.{has_run, run_packets, EndsRun, LosesRecords}
use Rattle.e57_chunk_out.specs.Progress.{open_packets, packets_so_far, run_so_far, is_nil}
use Rattle.e57_chunk_out.specs.Standing.{Cloud, Stands, IsUnderWay, in_groups}
use Rattle.e57_chunk_out.specs.Turns.{chunks_begun, data_end, AreNext, IsOnWay, PassesAt, Turns}
use Rattle.e57_chunk_out.specs.Sections.{index_packets, header_of, IsAsLeft}
use Rattle.e57_chunk_out.specs.Clouds.{cloud_of, IsCloud}
use Rattle.e57_chunk_out.specs.CloudCalls.{section_of, ClosesOn, HasStrings, PassesSection, PutsSection}
use Rattle.e57_chunk_out.specs.declared.section.Begun.{Begun}
use Rattle.e57_chunk_out.specs.declared.run.Run.{Run}
use Rattle.e57_chunk_out.specs.declared.turn.Chunks.{Chunks}
use Rattle.e57_chunk_out.proofs.Advancing.{loses_put, loses_more, loses_behind}
use Rattle.e57_chunk_out.proofs.Begun.{begun-some}
use Rattle.e57_chunk_out.proofs.Blocks.{AreOf, first-of-all}
use Rattle.e57_chunk_out.proofs.Fronts.{data-so-far}
use Rattle.e57_chunk_out.proofs.Joins.{first-all}
use Rattle.e57_chunk_out.proofs.Rows.{later-zero, strings-text}

-- ---- the section's bytes

-- the data's packets, and the index
packets-of : (q : ℕ) (kinds : List ItemKind) (n count : ℕ) (cs : List (List Value)) → packets_bytes (packets_spelled q kinds n count cs) ≡ packets_bytes (data_spelled kinds n count cs) ++ index_packets (index_place q kinds n count cs) (entries_for q kinds n count cs)
unfolding packets_spelled
packets-of q kinds n count cs = packets_bytes-append (data_spelled kinds n count cs) (index_spelled most_levels 0 (index_place q kinds n count cs) (entries_for q kinds n count cs))

section-is : (q : ℕ) (kinds : List ItemKind) (n count : ℕ) (cs : List (List Value)) → section_spelled q kinds n count cs ≡ section_head (header_for q kinds n count cs) ++ packets_bytes (packets_spelled (q + 32) kinds n count cs)
unfolding section_spelled
section-is q kinds n count cs = refl

module _ (p : ℕ) (kinds : List ItemKind) (n count : ℕ) (cs : List (List Value)) (size : ℕ) (entries : List Entry) (end : size ≡ 1020 * p + 32 + length (packets_bytes (data_spelled kinds n count cs))) (index : entries ≡ entries_for (1020 * p + 32) kinds n count cs) where
  same-index : index_packets size entries ≡ index_packets (index_place (1020 * p + 32) kinds n count cs) (entries_for (1020 * p + 32) kinds n count cs)
  same-index = ap (λ s. index_packets s entries) end ∙ ap (index_packets (index_place (1020 * p + 32) kinds n count cs)) index

  all-packets : packets_bytes (packets_spelled (1020 * p + 32) kinds n count cs) ≡ packets_bytes (data_spelled kinds n count cs) ++ index_packets size entries
  all-packets = packets-of (1020 * p + 32) kinds n count cs ∙ ap (λ (xs : List ℕ). packets_bytes (data_spelled kinds n count cs) ++ xs) (sym same-index)

  pub section-size : length (section_spelled (1020 * p) kinds n count cs) ≡ 32 + length (packets_bytes (data_spelled kinds n count cs)) + length (index_packets size entries)
  section-size =
      let both = ap (λ (xs : List ℕ). length xs) all-packets ∙ length-append (packets_bytes (data_spelled kinds n count cs)) (index_packets size entries) in
      let head = length-section_head (header_for (1020 * p) kinds n count cs) in
      let parts = ap (λ (xs : List ℕ). length xs) (section-is (1020 * p) kinds n count cs) ∙ length-append (section_head (header_for (1020 * p) kinds n count cs)) (packets_bytes (packets_spelled (1020 * p + 32) kinds n count cs)) in
      omega (arith, both, head, parts)

  same-header : header_of p size entries ≡ header_for (1020 * p) kinds n count cs
  same-header =
      let both = ap (λ (xs : List ℕ). length xs) all-packets ∙ length-append (packets_bytes (data_spelled kinds n count cs)) (index_packets size entries) in
      let long : size + length (index_packets size entries) - 1020 * p ≡ 32 + length (packets_bytes (packets_spelled (1020 * p + 32) kinds n count cs)) = omega (arith, end, both) in
      ap (λ l. header-with l size entries) long
      ∙ ap (λ s. header-with (32 + length (packets_bytes (packets_spelled (1020 * p + 32) kinds n count cs))) s entries) end
      ∙ ap (header-with (32 + length (packets_bytes (packets_spelled (1020 * p + 32) kinds n count cs))) (index_place (1020 * p + 32) kinds n count cs)) index
    where
      header-with : ℕ → ℕ → List Entry → SectionHeader
      header-with l s es = record { id = 1; length = l; data_place = physical (1020 * p + 32); index = physical (root_place most_levels 0 s es) }

  -- the header over the zeros
  pub section-put : (front : List ℕ) → length front ≡ 1020 * p
      → with_piece (1020 * p) (section_head (header_of p size entries)) ((front ++ (replicate 32 0 ++ packets_bytes (data_spelled kinds n count cs))) ++ index_packets size entries) ≡ front ++ section_spelled (1020 * p) kinds n count cs
  section-put front long =
      let head = length-section_head (header_of p size entries) in
      let zeros : List ℕ = replicate 32 0 in
      let bytes = packets_bytes (data_spelled kinds n count cs) in
      ap (with_piece (1020 * p) (section_head (header_of p size entries))) (append_assoc front (zeros ++ bytes) (index_packets size entries) ∙ ap (λ (xs : List ℕ). front ++ xs) (append_assoc zeros bytes (index_packets size entries)))
      ∙ piece-between (1020 * p) front (section_head (header_of p size entries)) zeros (bytes ++ index_packets size entries) long head
      ∙ ap (λ (h : SectionHeader). front ++ (section_head h ++ (bytes ++ index_packets size entries))) same-header
      ∙ ap (λ (xs : List ℕ). front ++ (section_head (header_for (1020 * p) kinds n count cs) ++ xs)) (sym all-packets)
      ∙ ap (λ (xs : List ℕ). front ++ xs) (sym (section-is (1020 * p) kinds n count cs))

pages-hold : (start : ℕ) → start ≤ 1020 * pages_for start
unfolding pages_for
pages-hold start = omega arith

filled-long : (b : List ℕ) (start : ℕ) → length b ≡ start → length (filled (pages_for start) b) ≡ 1020 * pages_for start
filled-long b start long = length-filled (pages_for start) b (omega (arith, long, pages-hold start))

-- ---- what is left, and the run

module _ {T : Type 0} (view : T → TargetView) (fields : List Waiting) (chunks : Chunks) (count : ℕ) (s : Begun) (out : Writing T) (cloud : IsCloud fields chunks count (Some s)) (between : AreOf (count % 8) (columns_of fields)) where
  abbrev old : Cloud
  old = cloud_of fields chunks count (Some s) false

  abbrev kinds : List ItemKind
  kinds = kinds_of fields

  abbrev n : ℕ
  n = chunks.records

  module _ (before : Option (List ℕ)) (start : ℕ) (cs : List (List Value)) (stands : Stands before start cs old out) where
    abbrev data_bytes : List ℕ
    data_bytes = packets_bytes (data_spelled kinds n count cs)

    next-left : AreNext count cs (in_groups count) 0 fields
    next-left = record { columns = stands.columns; next = sym stands.left ∙ first-of-all (count % 8) (columns_of fields) between ∙ sym (later-zero (columns_of fields)) }

    first-cs : first_records count cs ≡ cs
    first-cs = first-all kinds count count cs stands.columns (omega arith)

    data-is : data_spelled kinds n count cs ≡ packets_so_far kinds n count (first_records count cs) ++ flagged (is_nil (open_packets kinds n count (first_records count cs))) (flushed (run_so_far kinds n count (first_records count cs)))
    data-is =
        data-so-far kinds n count cs cloud.chunked.some cloud.chunked.groups stands.columns stands.columns
        ∙ ap (λ (xs : List (List Value)). packets_so_far kinds n count xs ++ flagged (is_nil (open_packets kinds n count xs)) (flushed (run_so_far kinds n count xs))) (sym first-cs)

    -- what is put of all records is within the section
    section-most : data_end start kinds n count cs ≤ 1020 * pages_for start + length (section_of start old cs)
    section-most =
        let entries = entries_for (1020 * pages_for start + 32) kinds n count cs in
        let size = section-size (pages_for start) kinds n count cs (1020 * pages_for start + 32 + length data_bytes) entries refl refl in
        let parts = ap (λ (ps : List Spelled). length (packets_bytes ps)) data-is ∙ length-packets_bytes-append (packets_so_far kinds n count (first_records count cs)) (flagged (is_nil (open_packets kinds n count (first_records count cs))) (flushed (run_so_far kinds n count (first_records count cs)))) in
        omega (arith, size, parts)

    passes-left : PassesAt (in_groups count) 0 (count % 8) fields chunks out → most_bytes < 1020 * pages_for start + length (section_of start old cs)
    passes-left past =
        let sum : in_groups count + count % 8 ≡ count = omega arith in
        let over = subst (λ e. most_bytes < data_end start kinds n e cs) sum (past before start count cs next-left (omega (arith, sum)) stands.written.2) in
        let most = section-most in
        omega (arith, over, most)

    module _ (fields_mid : List Waiting) (chunks_mid : Chunks) (mid : Writing T) (turns : Turns view (in_groups count) 0 (count % 8) fields chunks out fields_mid chunks_mid mid) where
      -- all whole packets, and the run
      way-left : IsUnderWay before start kinds n count cs (run_of (has_run chunks_mid.run) fields_mid) chunks_mid.run.is_begun chunks_mid.index.entries mid
      way-left =
          let sum : in_groups count + count % 8 ≡ count = omega arith in
          subst (λ m. IsUnderWay before start kinds m count cs (run_of (has_run chunks_mid.run) fields_mid) chunks_mid.run.is_begun chunks_mid.index.entries mid) turns.records
          (subst (λ (ks : List ItemKind). IsUnderWay before start ks chunks_mid.records count cs (run_of (has_run chunks_mid.run) fields_mid) chunks_mid.run.is_begun chunks_mid.index.entries mid) turns.kinds
          (subst (λ e. IsOnWay before start e cs fields_mid chunks_mid mid) sum (turns.way before start count cs next-left (omega (arith, sum)) stands.written.2)))

      run-is : run_packets fields_mid chunks_mid.run ≡ packets_bytes (flagged (is_nil (open_packets kinds n count (first_records count cs))) (flushed (run_so_far kinds n count (first_records count cs))))
      run-is =
          ap (λ b. packets_bytes (flagged b (flushed (run_of (has_run chunks_mid.run) fields_mid)))) (sym way-left.begun)
          ∙ ap (λ (r : Option (List (List ℕ))). packets_bytes (flagged (is_nil (open_packets kinds n count (first_records count cs))) (flushed r))) way-left.streams

      data-bytes : packets_bytes (packets_so_far kinds n count (first_records count cs)) ++ run_packets fields_mid chunks_mid.run ≡ data_bytes
      data-bytes =
          ap (λ (xs : List ℕ). packets_bytes (packets_so_far kinds n count (first_records count cs)) ++ xs) run-is
          ∙ sym (packets_bytes-append (packets_so_far kinds n count (first_records count cs)) (flagged (is_nil (open_packets kinds n count (first_records count cs))) (flushed (run_so_far kinds n count (first_records count cs)))))
          ∙ ap (λ (ps : List Spelled). packets_bytes ps) (sym data-is)

      end-size : mid.size + length (run_packets fields_mid chunks_mid.run) ≡ 1020 * pages_for start + 32 + length data_bytes
      end-size =
          let parts = ap (λ (xs : List ℕ). length xs) (sym data-bytes) ∙ length-append (packets_bytes (packets_so_far kinds n count (first_records count cs))) (run_packets fields_mid chunks_mid.run) in
          let size = way-left.size in
          omega (arith, parts, size)

      passes-run : most_bytes < mid.size + length (run_packets fields_mid chunks_mid.run) → most_bytes < 1020 * pages_for start + length (section_of start old cs)
      passes-run past =
          let entries = entries_for (1020 * pages_for start + 32) kinds n count cs in
          let size = section-size (pages_for start) kinds n count cs (1020 * pages_for start + 32 + length data_bytes) entries refl refl in
          let end = end-size in
          omega (arith, past, size, end)

      entries-are : chunks_mid.index.entries ≡ entries_for (1020 * pages_for start + 32) kinds n count cs
      entries-are = way-left.index ∙ ap (entries_for (1020 * pages_for start + 32) kinds n count) first-cs

      module _ (fields_last : List Waiting) (run_last : Run) (last : Writing T) (ends : EndsRun view fields_mid chunks_mid.run mid fields_last run_last last) where
        last-size : last.size ≡ 1020 * pages_for start + 32 + length data_bytes
        last-size = let end = end-size in let size = ends.puts.size in omega (arith, end, size)

        passes-index : most_bytes < last.size + length (index_packets last.size chunks_mid.index.entries) → most_bytes < 1020 * pages_for start + length (section_of start old cs)
        passes-index past =
            let size = section-size (pages_for start) kinds n count cs last.size chunks_mid.index.entries last-size entries-are in
            let end = last-size in
            omega (arith, past, size, end)

        last-told : last.told_bytes ≡ option_map (λ b. filled (pages_for start) b ++ (replicate 32 0 ++ data_bytes)) before
        last-told = ends.puts.bytes ∙ ap (option_map (λ (xs : List ℕ). xs ++ run_packets fields_mid chunks_mid.run)) way-left.bytes ∙ joined before
          where
            joined : (told : Option (List ℕ)) → option_map (λ (xs : List ℕ). xs ++ run_packets fields_mid chunks_mid.run) (option_map (λ b. filled (pages_for start) b ++ (replicate 32 0 ++ packets_bytes (packets_so_far kinds n count (first_records count cs)))) told) ≡ option_map (λ b. filled (pages_for start) b ++ (replicate 32 0 ++ data_bytes)) told
            joined None = refl
            joined (Some b) = ap Some (append_assoc (filled (pages_for start) b) (replicate 32 0 ++ packets_bytes (packets_so_far kinds n count (first_records count cs))) (run_packets fields_mid chunks_mid.run)
                ∙ ap (λ (xs : List ℕ). filled (pages_for start) b ++ xs) (append_assoc (replicate 32 0) (packets_bytes (packets_so_far kinds n count (first_records count cs))) (run_packets fields_mid chunks_mid.run) ∙ ap (λ (xs : List ℕ). replicate 32 0 ++ xs) data-bytes))

        puts_section : (offset : ℕ) (now : Writing T) → offset ≡ physical (1020 * s.page)
            → Writes view last (option_map (λ b. with_piece (1020 * s.page) (section_head (header_of s.page last.size chunks_mid.index.entries)) (b ++ index_packets last.size chunks_mid.index.entries)) last.told_bytes) (last.size + length (index_packets last.size chunks_mid.index.entries)) None now
            → PutsSection before start cs old offset now
        puts_section offset now is writes =
            let page : s.page ≡ pages_for start = stands.written.0 in
            let size = section-size (pages_for start) kinds n count cs last.size chunks_mid.index.entries last-size entries-are in
            let end = last-size in
            let high = writes.size in
            record {
              place = is ∙ ap (λ p. physical (1020 * p)) page;
              bytes = writes.bytes
                  ∙ ap (λ p. option_map (λ b. with_piece (1020 * p) (section_head (header_of p last.size chunks_mid.index.entries)) (b ++ index_packets last.size chunks_mid.index.entries)) last.told_bytes) page
                  ∙ ap (option_map (λ b. with_piece (1020 * pages_for start) (section_head (header_of (pages_for start) last.size chunks_mid.index.entries)) (b ++ index_packets last.size chunks_mid.index.entries))) last-told
                  ∙ whole before stands.long;
              size = omega (arith, size, end, high);
            }
          where
            whole : (told : Option (List ℕ)) → IfSome told (λ b. length b ≡ start)
                → option_map (λ b. with_piece (1020 * pages_for start) (section_head (header_of (pages_for start) last.size chunks_mid.index.entries)) (b ++ index_packets last.size chunks_mid.index.entries)) (option_map (λ b. filled (pages_for start) b ++ (replicate 32 0 ++ data_bytes)) told)
                ≡ option_map (λ b. filled (pages_for start) b ++ section_of start old cs) told
            whole None long = refl
            whole (Some b) long = ap Some (section-put (pages_for start) kinds n count cs last.size chunks_mid.index.entries last-size entries-are (filled (pages_for start) b) (filled-long b start long))

  -- ---- as the calls leave it

  module _ (fields_mid : List Waiting) (chunks_mid : Chunks) (mid : Writing T) (turns : Turns view (in_groups count) 0 (count % 8) fields chunks out fields_mid chunks_mid mid) (fields_last : List Waiting) (run_last : Run) (last : Writing T) (ends : EndsRun view fields_mid chunks_mid.run mid fields_last run_last last) where
    pub last-held : IsAsLeft (Some s) out → last.held ≡ Some s.page
    last-held here = ends.puts.held ∙ turns.held ∙ here.0

    pub last-begun : IsAsLeft (Some s) out → 1020 * s.page + 32 ≤ last.size
    last-begun here = let size = ends.puts.size in let left = here.1 in omega (arith, size, left, turns.grows, cloud.begun.1)

    pub last-some : 0 < length chunks_mid.index.entries
    last-some =
        let sum : in_groups count + count % 8 ≡ count = omega arith in
        let entries = turns.chunked.entries ∙ ap (λ e. chunks_begun chunks_mid.records e) sum ∙ ap (λ m. chunks_begun m count) turns.records in
        let more = begun-some n count cloud.chunked.some cloud.begun.0 in
        omega (arith, entries, more)

    pub closes_on : (offset : ℕ) (now : Writing T) → offset ≡ physical (1020 * s.page)
        → Writes view last (option_map (λ b. with_piece (1020 * s.page) (section_head (header_of s.page last.size chunks_mid.index.entries)) (b ++ index_packets last.size chunks_mid.index.entries)) last.told_bytes) (last.size + length (index_packets last.size chunks_mid.index.entries)) None now
        → ClosesOn view old out offset now
    closes_on offset now is writes = record {
      held = writes.held;
      state = writes.state;
      target = keeps_both (view out.target) (view last.target) (view now.target) (keeps_both (view out.target) (view mid.target) (view last.target) turns.target ends.puts.target) writes.target;
      section = λ before start cs stands. puts_section before start cs stands fields_mid chunks_mid mid turns fields_last run_last last ends offset now is writes;
    }

    pub lost_index : (given : PutFault) (fault : WriteFault) (now : TargetView) → fault ≡ put_as_write given → Loses view last (most_bytes < last.size + length (index_packets last.size chunks_mid.index.entries)) given now → LosesRecords view out (PassesSection old out) (HasStrings kinds) fault now
    lost_index given fault now is lost =
        loses_behind view out last (most_bytes < last.size + length (index_packets last.size chunks_mid.index.entries)) (PassesSection old out) ⊥ (HasStrings kinds) fault now (keeps_both (view out.target) (view mid.target) (view last.target) turns.target ends.puts.target)
        (λ past before start cs stands. passes-index before start cs stands fields_mid chunks_mid mid turns fields_last run_last last ends past) (λ none. absurd none)
        (loses_put view last (most_bytes < last.size + length (index_packets last.size chunks_mid.index.entries)) ⊥ given fault now is lost)

  pub lost_left : (fault : WriteFault) (now : TargetView) → LosesRecords view out (PassesAt (in_groups count) 0 (count % 8) fields chunks out) (HasText fields) fault now → LosesRecords view out (PassesSection old out) (HasStrings kinds) fault now
  lost_left fault now lost = loses_more view out (PassesAt (in_groups count) 0 (count % 8) fields chunks out) (PassesSection old out) (HasText fields) (HasStrings kinds) fault now (λ past before start cs stands. passes-left before start cs stands past) (strings-text fields) lost

  pub lost_end : (fields_mid : List Waiting) (chunks_mid : Chunks) (mid : Writing T) → Turns view (in_groups count) 0 (count % 8) fields chunks out fields_mid chunks_mid mid → (fault : WriteFault) (now : TargetView)
      → LosesRecords view mid (most_bytes < mid.size + length (run_packets fields_mid chunks_mid.run)) ⊥ fault now → LosesRecords view out (PassesSection old out) (HasStrings kinds) fault now
  lost_end fields_mid chunks_mid mid turns fault now lost =
      loses_behind view out mid (most_bytes < mid.size + length (run_packets fields_mid chunks_mid.run)) (PassesSection old out) ⊥ (HasStrings kinds) fault now turns.target
      (λ past before start cs stands. passes-run before start cs stands fields_mid chunks_mid mid turns past) (λ none. absurd none) lost

-- so many records before the last group are whole groups
pub at-groups : (count : ℕ) → count - count % 8 ≡ in_groups count
at-groups count = omega arith

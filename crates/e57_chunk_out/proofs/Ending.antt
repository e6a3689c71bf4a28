-- Laws of a block that was written, and of one that wasn't.
use Rattle.std.proofs.Common.{◌≡◌, ℕ, ◌+◌, ◌-◌, ◌*◌, ◌/◌, ◌%◌, ◌<◌, ◌≤◌, false, List, [], ◌++◌, length, map, replicate, Option, Some, None, refl, sym, ap, subst, ◌∙◌, arith}
use Rattle.std.specs.Option.{option_map}
use Rattle.std.proofs.lemmas.List.{append-nil}
use Rattle.e57_base.specs.Target.{TargetView}
use Rattle.e57_base.specs.declared.fault.WriteFault.{WriteFault}
use Rattle.e57_layout.specs.Values.{ItemKind, Value}
use Rattle.e57_layout.specs.Items.{AreColumns}
use Rattle.e57_layout.specs.Packing.{first_records, later_records, join_columns}
use Rattle.e57_layout.specs.Written.{Spelled, packets_bytes}
use Rattle.e57_layout.proofs.Laws.Blocks.{join_columns-columns}
use Rattle.e57_page_out.specs.Sealed.{filled, pages_for}
use Rattle.e57_page_out.specs.Writing.{Writing, Writes, KeepsTarget, IsBeingWritten, most_bytes}
use Rattle.e57_page_out.proofs.WritingLaws.{keeps_none, keeps_both}
use Rattle.e57_chunk_out.specs.Waiting.{Waiting, later_items}
use Rattle.e57_chunk_out.specs.SideBySide.{HasText}
use Rattle.e57_chunk_out.specs.Grouping.{kinds_of, columns_of, run_of}
use Rattle.e57_chunk_out.specs.Going.{has_run, LosesRecords}
use Rattle.e57_chunk_out.specs.Progress.{packets_so_far, is_nil}
use Rattle.e57_chunk_out.specs.Standing.{Cloud, Stands, IsUnderWay, IsUnbegun, IsPut, in_groups}
use Rattle.e57_chunk_out.specs.Turns.{data_end, AreNext, IsChunked, IsOnWay, PassesAt, Turns}
use Rattle.e57_chunk_out.specs.Sections.{IsAsLeft, OpensOn, PassesHeader}
use Rattle.e57_chunk_out.specs.Clouds.{cloud_of, IsCloud, IsBegunWith}
use Rattle.e57_chunk_out.specs.CloudCalls.{block_length, EndsBlock, HasStrings, PassesBlock}
use Rattle.e57_chunk_out.specs.declared.section.Begun.{Begun}
use Rattle.e57_chunk_out.specs.declared.turn.Chunks.{Chunks}
use Rattle.e57_chunk_out.proofs.Advancing.{loses_more, loses_behind}
use Rattle.e57_chunk_out.proofs.Blocks.{kinds-later, columns-later, run-later, chunked_later, AreOf, block-columns, of-later, first-of-all, first-column, so_far-zero, open-zero, run-zero, entries-zero, way_same}
use Rattle.e57_chunk_out.proofs.Joins.{later-join, first-join, cut-joined_at}
use Rattle.e57_chunk_out.proofs.Rows.{later-later, later-zero, strings-text}

-- ---- a section that is begun

module _ {T : Type 0} (view : T → TargetView) (fields : List Waiting) (chunks : Chunks) (count : ℕ) (out : Writing T) (page : ℕ) (mid : Writing T) where
  -- its page, and what is done
  pub open-keeps : (section : Option Begun) → OpensOn view section out page mid → KeepsTarget (view out.target) (view mid.target)
  open-keeps None opens = opens.1.target
  open-keeps (Some s) opens = subst (λ (o : Writing T). KeepsTarget (view out.target) (view o.target)) (sym opens.1) (keeps_none (view out.target))

  pub open-state : (section : Option Begun) → OpensOn view section out page mid → IsBeingWritten view mid
  open-state None opens = opens.1.state
  open-state (Some s) opens = subst (λ (o : Writing T). IsBeingWritten view o) (sym opens.1) opens.2

  pub open-held : (section : Option Begun) → OpensOn view section out page mid → IsAsLeft section out → mid.held ≡ Some page
  open-held None opens here = opens.1.held ∙ ap Some (sym opens.0)
  open-held (Some s) opens here = ap (λ (o : Writing T). o.held) opens.1 ∙ here.0 ∙ ap Some (sym opens.0)

  pub open-size : (section : Option Begun) → OpensOn view section out page mid → IsAsLeft section out → IsBegunWith section count → 1020 * page + 32 ≤ mid.size
  open-size None opens here begun = let size = opens.1.size in let is = opens.0 in omega (arith, size, is)
  open-size (Some s) opens here begun =
      let same : mid.size ≡ out.size = ap (λ (o : Writing T). o.size) opens.1 in
      let is = opens.0 in
      let size = here.1 in
      omega (arith, same, is, size, begun.1)

  module _ (before : Option (List ℕ)) (start : ℕ) (cs : List (List Value)) where
    told-none : (told : Option (List ℕ)) (p : ℕ) → option_map (λ b. filled p b ++ replicate 32 0) told ≡ option_map (λ b. filled p b ++ (replicate 32 0 ++ [])) told
    told-none None p = refl
    told-none (Some b) p = ap Some (ap (λ (xs : List ℕ). filled p b ++ xs) (sym (append-nil (replicate 32 0))))

    -- before the first record
    way-begins : (q : ℕ) → q ≡ pages_for start → IsUnbegun before start (cloud_of fields chunks count None false) out → Writes view out (option_map (λ b. filled q b ++ replicate 32 0) out.told_bytes) (1020 * q + 32) (Some q) mid → IsOnWay before start 0 cs fields chunks mid
    way-begins q is unbegun writes =
        let kinds = kinds_of fields in
        let n = chunks.records in
        let none = so_far-zero kinds n (first_records 0 cs) in
        let packets : packets_bytes (packets_so_far kinds n 0 (first_records 0 cs)) ≡ [] = ap (λ (ps : List Spelled). packets_bytes ps) none in
        let size : length (packets_bytes (packets_so_far kinds n 0 (first_records 0 cs))) ≡ 0 = ap (λ (b : List ℕ). length b) packets in
        let high = writes.size in
        record {
          streams = unbegun.run ∙ sym (run-zero kinds n (first_records 0 cs));
          begun = ap (λ (ps : List (List (List ℕ))). is_nil ps) (open-zero kinds n (first_records 0 cs)) ∙ sym unbegun.begun;
          held = writes.held ∙ ap Some is;
          size = omega (arith, high, size, is);
          bytes = writes.bytes ∙ ap (option_map (λ b. filled q b ++ replicate 32 0)) unbegun.bytes ∙ told-none before q ∙ ap (λ (p : ℕ). option_map (λ b. filled p b ++ (replicate 32 0 ++ [])) before) is
              ∙ ap (λ (xs : List ℕ). option_map (λ b. filled (pages_for start) b ++ (replicate 32 0 ++ xs)) before) (sym packets);
          index = unbegun.entries ∙ sym (entries-zero (1020 * pages_for start + 32) kinds n (first_records 0 cs));
        }

    pub open-page : (section : Option Begun) → OpensOn view section out page mid → IsPut before start cs (cloud_of fields chunks count section false) out section → page ≡ pages_for start
    open-page None opens put = opens.0 ∙ ap pages_for put.size
    open-page (Some s) opens put = opens.0 ∙ put.0

    -- the section of the records so far
    pub open-way : (section : Option Begun) → OpensOn view section out page mid → IsPut before start cs (cloud_of fields chunks count section false) out section → IsOnWay before start (in_groups count) cs fields chunks mid
    open-way None opens put =
        let none : in_groups count ≡ 0 = let is = put.count in omega (arith, is) in
        subst (λ e. IsOnWay before start e cs fields chunks mid) (sym none) (way-begins (pages_for out.size) (ap pages_for put.size) put opens.1)
    open-way (Some s) opens put = subst (λ (o : Writing T). IsOnWay before start (in_groups count) cs fields chunks o) (sym opens.1) put.2

-- ---- a block

module _ {T : Type 0} (view : T → TargetView) (fields : List Waiting) (chunks : Chunks) (count : ℕ) (section : Option Begun) (out : Writing T) (page : ℕ) (mid : Writing T) (m whole : ℕ) (cloud : IsCloud fields chunks count section) (opens : OpensOn view section out page mid) (even : AreOf (count % 8 + m) (columns_of fields)) (some : 0 < m) (groups : whole ≡ (count % 8 + m) / 8 * 8) where
  abbrev old : Cloud
  old = cloud_of fields chunks count section false

  abbrev block : List (List Value)
  block = later_records (count % 8) (columns_of fields)

  abbrev kinds : List ItemKind
  kinds = kinds_of fields

  block-are : AreColumns kinds m block
  block-are = block-columns (count % 8) m fields cloud.chunked.gathered.waiting even

  module _ (before : Option (List ℕ)) (start : ℕ) (cs : List (List Value)) (stands : Stands before start cs old out) where
    abbrev all : List (List Value)
    all = join_columns cs block

    all-are : AreColumns kinds (count + m) all
    all-are = join_columns-columns kinds count m cs block stands.columns block-are

    -- what waits is what is left of all
    left-all : later_records (in_groups count) all ≡ columns_of fields
    left-all =
        later-join kinds count m (in_groups count) cs block stands.columns block-are (omega arith)
        ∙ ap (λ (xs : List (List Value)). join_columns xs block) (sym stands.left)
        ∙ cut-joined_at (count % 8) (columns_of fields)

    next-all : AreNext (count + m) all (in_groups count) 0 fields
    next-all = record { columns = all-are; next = left-all ∙ sym (later-zero (columns_of fields)) }

    way-all : IsOnWay before start (in_groups count) all fields chunks mid
    way-all =
        way_same before start kinds chunks.records (in_groups count) cs all (run_of (has_run chunks.run) fields) chunks.run.is_begun chunks.index.entries mid
        (first-join kinds count m (in_groups count) cs block stands.columns block-are (omega arith))
        (open-way view fields chunks count out page mid before start cs section opens stands.written)

    -- where the packets pass the last page
    passes : PassesAt (in_groups count) 0 whole fields chunks mid → most_bytes < data_end start kinds chunks.records (in_groups (count + m)) all
    passes past =
        let sum : in_groups count + whole ≡ in_groups (count + m) = omega (arith, groups) in
        subst (λ e. most_bytes < data_end start kinds chunks.records e all) sum (past before start (count + m) all next-all (omega (arith, sum)) way-all)

    module _ (fields_now : List Waiting) (chunks_now : Chunks) (now : Writing T) (turns : Turns view (in_groups count) 0 whole fields chunks mid fields_now chunks_now now) where
      abbrev fields_then : List Waiting
      fields_then = map (later_items whole) fields_now

      kinds-then : kinds_of fields_then ≡ kinds
      kinds-then = kinds-later whole fields_now ∙ turns.kinds

      columns-then : columns_of fields_then ≡ later_records whole (columns_of fields)
      columns-then = columns-later whole fields_now ∙ ap (later_records whole) turns.columns

      then-of : AreOf ((count + m) % 8) (later_records whole (columns_of fields))
      then-of =
          let sum : count % 8 + m ≡ whole + (count + m) % 8 = omega (arith, groups) in
          of-later whole ((count + m) % 8) (columns_of fields) (subst (λ n. AreOf n (columns_of fields)) sum even)

      stands-then : Stands before start all (cloud_of fields_then chunks_now (count + m) (Some (record { page = page; size = now.size })) false) now
      stands-then =
          let sum : in_groups count + whole ≡ in_groups (count + m) = omega (arith, groups) in
          let few : (count + m) - in_groups (count + m) ≡ (count + m) % 8 = omega arith in
          let rest : later_records (in_groups (count + m)) all ≡ later_records whole (columns_of fields) = ap (λ e. later_records e all) (sym sum) ∙ later-later (in_groups count) whole all ∙ ap (later_records whole) left-all in
          let way = turns.way before start (count + m) all next-all (omega (arith, sum)) way-all in
          record {
            long = stands.long;
            columns = subst (λ (ks : List ItemKind). AreColumns ks (count + m) all) (sym kinds-then) all-are;
            left = ap (first_records ((count + m) % 8)) columns-then
                ∙ first-of-all ((count + m) % 8) (later_records whole (columns_of fields)) then-of
                ∙ sym rest;
            written = (
              open-page view fields chunks count out page mid before start cs section opens stands.written,
              refl,
              subst (λ (ks : List ItemKind). IsUnderWay before start ks chunks_now.records (in_groups (count + m)) all (run_of (has_run chunks_now.run) fields_then) chunks_now.run.is_begun chunks_now.index.entries now) (sym (kinds-later whole fields_now))
                  (subst (λ (r : Option (List (List ℕ))). IsUnderWay before start (kinds_of fields_now) chunks_now.records (in_groups (count + m)) all r chunks_now.run.is_begun chunks_now.index.entries now) (sym (run-later (has_run chunks_now.run) whole fields_now))
                  (subst (λ e. IsOnWay before start e all fields_now chunks_now now) sum way)),
            );
          }

  -- how many items the block has
  length-is : block_length old ≡ m
  length-is = let one = first-column fields even cloud.chunked.gathered.some in omega (arith, one)

  -- the block was written
  pub block_done : (fields_mid fields_now : List Waiting) (chunks_now : Chunks) (now : Writing T) → IsAsLeft section out → Turns view (in_groups count) 0 whole fields chunks mid fields_mid chunks_now now → fields_now ≡ map (later_items whole) fields_mid → count + m ≤ chunks.at_most
      → IsCloud fields_now chunks_now (count + m) (Some (record { page = page; size = now.size })) × EndsBlock view old out (cloud_of fields_now chunks_now (count + m) (Some (record { page = page; size = now.size })) false) now
  block_done fields_mid fields_now chunks_now now here turns is within =
      let sum : in_groups count + whole ≡ in_groups (count + m) = omega (arith, groups) in
      let begun = open-size view fields chunks count out page mid section opens here cloud.begun in
      let few : count % 8 + m ≡ whole + (count + m) % 8 = omega (arith, groups) in
      let columns : columns_of fields_now ≡ later_records whole (columns_of fields) = ap columns_of is ∙ columns-later whole fields_mid ∙ ap (later_records whole) turns.columns in (
        record {
          chunked = subst (λ (ws : List Waiting). IsChunked (in_groups (count + m)) ws chunks_now) (sym is) (subst (λ e. IsChunked e (map (later_items whole) fields_mid) chunks_now) sum (chunked_later whole (in_groups count + whole) fields_mid chunks_now turns.chunked));
          few = omega (arith, within, turns.at_most);
          begun = (omega (arith, some), omega (arith, begun, turns.grows));
        },
        record {
          kinds = ap kinds_of is ∙ kinds-later whole fields_mid ∙ turns.kinds;
          chunk = turns.records;
          at_most = turns.at_most;
          count = ap (λ n. count + n) (sym length-is);
          between = subst (AreOf ((count + m) % 8)) (sym columns) (of-later whole ((count + m) % 8) (columns_of fields) (subst (λ n. AreOf n (columns_of fields)) few even));
          unspent = refl;
          begun = refl;
          here = (turns.held ∙ open-held view fields chunks count out page mid section opens here, refl);
          state = turns.state;
          target = keeps_both (view out.target) (view mid.target) (view now.target) (open-keeps view fields chunks count out page mid section opens) turns.target;
          stands = λ before start cs stands.
              subst (λ (ws : List Waiting). Stands before start (join_columns cs block) (cloud_of ws chunks_now (count + m) (Some (record { page = page; size = now.size })) false) now) (sym is) (stands-then before start cs stands fields_mid chunks_now now turns);
        },
      )

  -- it was not
  pub block_lost : (fault : WriteFault) (now : TargetView) → LosesRecords view mid (PassesAt (in_groups count) 0 whole fields chunks mid) (HasText fields) fault now → LosesRecords view out (PassesBlock old out) (HasStrings kinds) fault now
  block_lost fault now lost =
      loses_behind view out mid (PassesAt (in_groups count) 0 whole fields chunks mid) (PassesBlock old out) (HasText fields) (HasStrings kinds) fault now (open-keeps view fields chunks count out page mid section opens)
      (λ past before start cs stands. subst (λ n. most_bytes < data_end start kinds chunks.records (in_groups (count + n)) (join_columns cs block)) (sym length-is) (passes before start cs stands past))
      (strings-text fields) lost

-- the header passes the last page
pub header_lost : {T : Type 0} (view : T → TargetView) (fields : List Waiting) (chunks : Chunks) (count : ℕ) (section : Option Begun) (out : Writing T) (fault : WriteFault) (now : TargetView) → LosesRecords view out (PassesHeader section out) ⊥ fault now
    → LosesRecords view out (PassesBlock (cloud_of fields chunks count section false) out) (HasStrings (kinds_of fields)) fault now
header_lost view fields chunks count None out fault now lost =
    loses_more view out (PassesHeader None out) (PassesBlock (cloud_of fields chunks count None false) out) ⊥ (HasStrings (kinds_of fields)) fault now
    (λ past before start cs stands. let size : pages_for out.size ≡ pages_for start = ap pages_for (size-of before start cs stands) in omega (arith, past, size)) (λ none. absurd none) lost
  where
    size-of : (before : Option (List ℕ)) (start : ℕ) (cs : List (List Value)) → Stands before start cs (cloud_of fields chunks count None false) out → out.size ≡ start
    size-of before start cs stands = stands.written.size
header_lost view fields chunks count (Some s) out fault now lost =
    loses_more view out ⊥ (PassesBlock (cloud_of fields chunks count (Some s) false) out) ⊥ (HasStrings (kinds_of fields)) fault now (λ none. absurd none) (λ none. absurd none) lost

-- ---- as the calls leave it

module _ {T : Type 0} (view : T → TargetView) (fields : List Waiting) (chunks : Chunks) (count : ℕ) (section : Option Begun) (out : Writing T) (page : ℕ) (mid : Writing T) (m waiting : ℕ) (cloud : IsCloud fields chunks count section) (opens : OpensOn view section out page mid) (even : AreOf (count % 8 + m) (columns_of fields)) (some : 0 < m) (is : waiting ≡ count % 8 + m) where
  at-first : count - count % 8 ≡ in_groups count
  at-first = omega arith

  pub lost_at : (fault : WriteFault) (now : TargetView) → LosesRecords view mid (PassesAt (count - count % 8) 0 (waiting / 8 * 8) fields chunks mid) (HasText fields) fault now → LosesRecords view out (PassesBlock (cloud_of fields chunks count section false) out) (HasStrings (kinds_of fields)) fault now
  lost_at fault now lost =
      block_lost view fields chunks count section out page mid m (waiting / 8 * 8) cloud opens even some (ap (λ w. w / 8 * 8) is) fault now
      (subst (λ e. LosesRecords view mid (PassesAt e 0 (waiting / 8 * 8) fields chunks mid) (HasText fields) fault now) at-first lost)

  pub done_at : (fields_mid fields_now : List Waiting) (chunks_now : Chunks) (now : Writing T) (size : ℕ) → IsAsLeft section out → Turns view (count - count % 8) 0 (waiting / 8 * 8) fields chunks mid fields_mid chunks_now now → fields_now ≡ map (later_items (waiting / 8 * 8)) fields_mid → count + m ≤ chunks.at_most → size ≡ now.size
      → IsCloud fields_now chunks_now (count + (waiting - count % 8)) (Some (record { page = page; size = size })) × EndsBlock view (cloud_of fields chunks count section false) out (cloud_of fields_now chunks_now (count + (waiting - count % 8)) (Some (record { page = page; size = size })) false) now
  done_at fields_mid fields_now chunks_now now size here turns later within same =
      let number : count + m ≡ count + (waiting - count % 8) = omega (arith, is) in
      subst (λ k. IsCloud fields_now chunks_now k (Some (record { page = page; size = size })) × EndsBlock view (cloud_of fields chunks count section false) out (cloud_of fields_now chunks_now k (Some (record { page = page; size = size })) false) now) number
      (subst (λ k. IsCloud fields_now chunks_now (count + m) (Some (record { page = page; size = k })) × EndsBlock view (cloud_of fields chunks count section false) out (cloud_of fields_now chunks_now (count + m) (Some (record { page = page; size = k })) false) now) (sym same)
      (block_done view fields chunks count section out page mid m (waiting / 8 * 8) cloud opens even some (ap (λ w. w / 8 * 8) is) fields_mid fields_now chunks_now now here
      (subst (λ e. Turns view e 0 (waiting / 8 * 8) fields chunks mid fields_mid chunks_now now) at-first turns) later within))

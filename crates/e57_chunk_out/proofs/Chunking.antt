-- Laws of a turn: it keeps the section under way.
use Rattle.std.proofs.Common.{◌≡◌, ℕ, ◌+◌, ◌-◌, ◌*◌, ◌/◌, ◌%◌, ◌<◌, ◌≤◌, min, Bool, true, false, List, [], ◌∷◌, ◌++◌, length, map, Option, refl, sym, ap, subst, ◌∙◌, arith, inl, inr, ⊎_elim}
use Rattle.std.specs.Prelude.{not, ◌||◌, ◌&&◌}
use Rattle.std.proofs.lemmas.Bool.{cases_lt}
use Rattle.std.proofs.lemmas.List.{length-append}
use Rattle.std.proofs.Math.Nat.{div-add-mod, mod-lt}
use Rattle.e57_base.specs.Target.{TargetView}
use Rattle.e57_base.specs.declared.fault.WriteFault.{WriteFault}
use Rattle.e57_layout.specs.Values.{ItemKind, Value}
use Rattle.e57_layout.specs.Items.{AreColumns}
use Rattle.e57_layout.specs.Packing.{first_records, later_records, chunk_groups, flushed}
use Rattle.e57_layout.specs.Steps.{Step, steps}
use Rattle.e57_layout.specs.Written.{Spelled, flagged, packets_bytes, physical, entries_for}
use Rattle.e57_index_out.specs.EntryList.{EntryList}
use Rattle.e57_layout.proofs.Laws.Written.{packets_bytes-append, length-packets_bytes-append}
use Rattle.e57_page_out.specs.Sealed.{pages_for}
use Rattle.e57_page_out.specs.Sequences.{Puts}
use Rattle.e57_page_out.specs.Writing.{Writing, most_bytes}
use Rattle.e57_page_out.proofs.Sequences.{puts_both}
use Rattle.e57_page_out.proofs.WritingLaws.{keeps_both}
use Rattle.e57_chunk_out.specs.Waiting.{Waiting, cleared}
use Rattle.e57_chunk_out.specs.SideBySide.{HasText}
use Rattle.e57_chunk_out.specs.Grouping.{kinds_of, columns_of, run_of}
use Rattle.e57_chunk_out.specs.Going.{gone, has_run, run_packets, AreGroups, EndsRun, Goes, IsGathered, LosesRecords}
use Rattle.e57_chunk_out.specs.Progress.{packets_so_far, open_packets, is_nil}
use Rattle.e57_chunk_out.specs.Standing.{IsUnderWay}
use Rattle.e57_chunk_out.specs.Turns.{chunks_begun, data_end, AreNext, BeginsChunk, IsChunked, IsOnWay, PassesAt, Turns}
use Rattle.e57_chunk_out.specs.declared.run.Run.{Run}
use Rattle.e57_chunk_out.specs.declared.turn.Chunks.{Chunks}
use Rattle.e57_chunk_out.proofs.Advancing.{kinds-cleared, columns-cleared, first-are, not_advanced, loses_more, loses_behind}
use Rattle.e57_chunk_out.proofs.Begun.{rest-mod, begun-next, begun-same}
use Rattle.e57_chunk_out.proofs.Fronts.{front-any, front-length, first-are as first-columns, more-are}
use Rattle.e57_chunk_out.proofs.RunLaws.{gathered_cleared}
use Rattle.e57_chunk_out.proofs.Keeping.{next-records, keeps-open, keeps-full, is-index}
use Rattle.e57_chunk_out.proofs.Stepping.{flagged-append}
use Rattle.e57_chunk_out.proofs.Turning.{MayAdd, in_chunks-le, in_chunks-within, packets-on, packets-full, step_on}

-- ---- groups of a chunk

-- what a chunk has is whole groups
pub rest-groups : (n e : ℕ) → 0 < n → n % 8 ≡ 0 → e % 8 ≡ 0 → (e % n) % 8 ≡ 0
rest-groups n e some groups whole =
    let n8 : 8 * (n / 8) + n % 8 ≡ n = div-add-mod n 8 in
    let parts : n * (e / n) + e % n ≡ e = div-add-mod e n in
    let product : n * (e / n) ≡ 8 * (n / 8 * (e / n)) = ap (λ a. a * (e / n)) (sym n8 ∙ ap (λ r. 8 * (n / 8) + r) groups) ∙ regroup (n / 8) (e / n) in
    omega (arith, parts, product, groups, whole)
  where
    regroup : (a q : ℕ) → (8 * a + 0) * q ≡ 8 * (a * q)
    regroup a q = grind arith

pub groups_wider : (n e k most : ℕ) → 0 < n → n % 8 ≡ 0 → e % 8 ≡ 0 → AreGroups k (min most (n - e % n)) → AreGroups k most
groups_wider n e k most some groups whole are =
    let rest = rest-groups n e some groups whole in (
      are.0,
      omega (arith, are.1),
      ⊎_elim (λ (all : k ≡ min most (n - e % n)). ⊎_elim
          (λ (few : most < n - e % n). inl (omega (arith, all, few)))
          (λ (many : n - e % n ≤ most). inr (omega (arith, all, many, rest, groups)))
          (cases_lt most (n - e % n))) (λ eights. inr eights) are.2,
    )

-- the records of the open chunk, with more
pub rest-open : (n e k : ℕ) → 0 < n → e % n + k < n → (e + k) % n ≡ e % n + k
rest-open n e k some h =
    let here = rest-mod n e in
    let below = in_chunks-le n e some in
    let within = in_chunks-within n e k some (omega (arith, here)) in
    sym (rest-mod n (e + k)) ∙ ap (λ m. e + k - m) within ∙ omega (arith, here, below)

-- ---- a chunk's entry

pub begins_new : (e q : ℕ) (chunks : Chunks) (index : EntryList) (place : ℕ) → e % chunks.records ≡ 0 → place ≡ physical q → index ≡ record chunks.index { entries = chunks.index.entries ++ record { first = e; place = place } ∷ [] } → BeginsChunk e q chunks (record chunks { index = index })
begins_new e q chunks index place none here is =
    record {
      fresh = λ zero. ap (λ (i : EntryList). record chunks { index = i }) (is ∙ ap (λ p. record chunks.index { entries = chunks.index.entries ++ record { first = e; place = p } ∷ [] }) here);
      same = λ more. absurd (omega (arith, none, more));
    }

-- ---- what a step puts

not-or : (b c : Bool) → not (b || not c) ≡ (not b && c)
not-or true true = refl
not-or true false = refl
not-or false true = refl
not-or false false = refl

-- what a step puts, and then its run
all-packets : {T : Type 0} (view : T → TargetView) (from k : ℕ) (fields : List Waiting) (run : Run) (out mid : Writing T) (fields_mid : List Waiting) (run_mid : Run) → Goes view from k fields run out fields_mid run_mid mid
    → packets_bytes (flagged (not run.is_begun) (gone from k fields run).done) ++ run_packets fields_mid run_mid ≡ packets_bytes (flagged (not run.is_begun) ((gone from k fields run).done ++ flushed (gone from k fields run).run))
all-packets view from k fields run out mid fields_mid run_mid goes =
    let step = gone from k fields run in
    let last : run_packets fields_mid run_mid ≡ packets_bytes (flagged (not run.is_begun && is_nil step.done) (flushed step.run)) =
    ap (λ (r : Option (List (List ℕ))). packets_bytes (flagged (not run_mid.is_begun) (flushed r))) goes.streams
    ∙ ap (λ b. packets_bytes (flagged (not b) (flushed step.run))) goes.begun
    ∙ ap (λ b. packets_bytes (flagged b (flushed step.run))) (not-or run.is_begun (is_nil step.done)) in
    ap (λ (bytes : List ℕ). packets_bytes (flagged (not run.is_begun) step.done) ++ bytes) last
    ∙ sym (packets_bytes-append (flagged (not run.is_begun) step.done) (flagged (not run.is_begun && is_nil step.done) (flushed step.run)))
    ∙ ap packets_bytes (sym (flagged-append (not run.is_begun) step.done (flushed step.run)))

puts-all : {T : Type 0} (view : T → TargetView) (from k : ℕ) (fields : List Waiting) (run : Run) (out mid now : Writing T) (fields_mid fields_now : List Waiting) (run_mid run_now : Run) → Goes view from k fields run out fields_mid run_mid mid → EndsRun view fields_mid run_mid mid fields_now run_now now
    → Puts view out (packets_bytes (flagged (not run.is_begun) ((gone from k fields run).done ++ flushed (gone from k fields run).run))) now
puts-all view from k fields run out mid now fields_mid fields_now run_mid run_now goes ends =
    subst (λ (bytes : List ℕ). Puts view out bytes now) (all-packets view from k fields run out mid fields_mid run_mid goes)
    (puts_both view out mid now (packets_bytes (flagged (not run.is_begun) (gone from k fields run).done)) (run_packets fields_mid run_mid) goes.puts ends.puts)

-- ---- a turn, over plain variables

module _ {T : Type 0} (view : T → TargetView) (e from k : ℕ) (fields : List Waiting) (chunks begun : Chunks) (out : Writing T) (chunked : IsChunked e fields chunks) (whole : e % 8 ≡ 0) (begins : BeginsChunk e out.size chunks begun) (adds : 0 < k) (within : e % chunks.records + k ≤ chunks.records) where
  abbrev n : ℕ
  n = chunks.records

  -- what the beginning keeps
  pub record IsSameBut : Type 0 where
    pub records : begun.records ≡ chunks.records
    pub at_most : begun.at_most ≡ chunks.at_most
    pub run : begun.run ≡ chunks.run
    pub room : begun.index.room ≡ chunks.index.room
    pub entries : length begun.index.entries ≡ chunks_begun n (e + k)

  pub same_but : IsSameBut
  same_but = ⊎_elim
      (λ (none : e % n < 1).
      let zero : e % n ≡ 0 = omega arith in
      let is = begins.fresh zero in
      record {
        records = ap (λ (c : Chunks). c.records) is;
        at_most = ap (λ (c : Chunks). c.at_most) is;
        run = ap (λ (c : Chunks). c.run) is;
        room = ap (λ (c : Chunks). c.index.room) is;
        entries = ap (λ (c : Chunks). length c.index.entries) is ∙ length-append chunks.index.entries (record { first = e; place = physical out.size } ∷ []) ∙ ap (λ m. m + 1) chunked.entries ∙ sym (begun-next n e k chunked.some zero adds (omega (arith, within)));
      })
      (λ (some : 1 ≤ e % n).
      let is = begins.same (omega (arith, some)) in
      record {
        records = ap (λ (c : Chunks). c.records) is;
        at_most = ap (λ (c : Chunks). c.at_most) is;
        run = ap (λ (c : Chunks). c.run) is;
        room = ap (λ (c : Chunks). c.index.room) is;
        entries = ap (λ (c : Chunks). length c.index.entries) is ∙ chunked.entries ∙ sym (begun-same n e k chunked.some (omega (arith, some)) within);
      })
      (cases_lt (e % n) 1)

  module _ (before : Option (List ℕ)) (start count : ℕ) (cs : List (List Value)) (next : AreNext count cs e from fields) (there : e + k ≤ count) (way : IsOnWay before start e cs fields chunks out) where
    abbrev kinds : List ItemKind
    kinds = kinds_of fields

    may : MayAdd kinds n e (first_records e cs) k (first_records k (later_records e cs))
    may =
        let rest = rest-mod n e in
        record {
          some = chunked.some;
          groups = chunked.groups;
          whole = whole;
          columns = first-columns kinds n count cs chunked.some chunked.groups next.columns e (omega (arith, there));
          added = more-are kinds n count cs chunked.some chunked.groups next.columns e k there;
          within = omega (arith, rest, within);
        }

    -- the steps of these records
    same-gone : gone from k fields chunks.run ≡ steps (run_of (has_run chunks.run) fields) (chunk_groups kinds (record { count = k; columns = first_records k (later_records e cs) }))
    same-gone = ap (λ (rest : List (List Value)). steps (run_of (has_run chunks.run) fields) (chunk_groups kinds (record { count = k; columns = first_records k rest }))) (sym next.next)

    index-now : begun.index.entries ≡ entries_for (1020 * pages_for start + 32) kinds n (e + k) (first_records (e + k) cs)
    index-now =
        let rest = rest-mod n e in
        is-index view before start kinds n e k cs out out chunks.index.entries (run_of (has_run chunks.run) fields) chunks.run.is_begun way may adds begun.index.entries
        (λ none. ap (λ (c : Chunks). c.index.entries) (begins.fresh (sym rest ∙ none)))
        (λ some. ap (λ (c : Chunks). c.index.entries) (begins.same (omega (arith, rest, some))))

    -- where the chunk isn't filled
    way_open : (fields_now : List Waiting) (run_now : Run) (now : Writing T) → e % n + k < n → Goes view from k fields chunks.run out fields_now run_now now → IsOnWay before start (e + k) cs fields_now (record begun { run = run_now }) now
    way_open fields_now run_now now h goes =
        let rest = rest-mod n e in
        subst (λ (ks : List ItemKind). IsUnderWay before start ks begun.records (e + k) cs (run_of (has_run run_now) fields_now) run_now.is_begun begun.index.entries now) (sym goes.kinds)
        (subst (λ m. IsUnderWay before start kinds m (e + k) cs (run_of (has_run run_now) fields_now) run_now.is_begun begun.index.entries now) (sym same_but.records)
        (keeps-open view before start kinds n e k cs out now chunks.index.entries (run_of (has_run chunks.run) fields) chunks.run.is_begun way may adds begun.index.entries (run_of (has_run run_now) fields_now) run_now.is_begun (omega (arith, rest, h))
        (subst (λ (s : Step). Puts view out (packets_bytes (flagged (not chunks.run.is_begun) s.done)) now) same-gone goes.puts)
        (goes.streams ∙ ap (λ (s : Step). s.run) same-gone)
        (goes.begun ∙ ap (λ (s : Step). chunks.run.is_begun || not (is_nil s.done)) same-gone)
        index-now))

    -- where it is, and its run is put
    way_full : (mid now : Writing T) (fields_mid fields_now : List Waiting) (run_mid run_now : Run) → e % n + k ≡ n → Goes view from k fields chunks.run out fields_mid run_mid mid → EndsRun view fields_mid run_mid mid fields_now run_now now
        → IsOnWay before start (e + k) cs fields_now (record begun { run = run_now }) now
    way_full mid now fields_mid fields_now run_mid run_now h goes ends =
        let rest = rest-mod n e in
        let same_kinds : kinds_of fields_now ≡ kinds = ap kinds_of ends.emptied ∙ kinds-cleared fields_mid ∙ goes.kinds in
        subst (λ (ks : List ItemKind). IsUnderWay before start ks begun.records (e + k) cs (run_of (has_run run_now) fields_now) run_now.is_begun begun.index.entries now) (sym same_kinds)
        (subst (λ m. IsUnderWay before start kinds m (e + k) cs (run_of (has_run run_now) fields_now) run_now.is_begun begun.index.entries now) (sym same_but.records)
        (subst (λ (r : Run). IsUnderWay before start kinds n (e + k) cs (run_of (has_run r) fields_now) r.is_begun begun.index.entries now) (sym ends.reset)
        (keeps-full view before start kinds n e k cs out now chunks.index.entries (run_of (has_run chunks.run) fields) chunks.run.is_begun way may adds begun.index.entries (omega (arith, rest, h))
        (subst (λ (s : Step). Puts view out (packets_bytes (flagged (not chunks.run.is_begun) (s.done ++ flushed s.run))) now) same-gone (puts-all view from k fields chunks.run out mid now fields_mid fields_now run_mid run_now goes ends))
        index-now)))

    step_is : step_on kinds n e (first_records e cs) k (first_records k (later_records e cs)) may ≡ gone from k fields chunks.run
    step_is = sym (ap (λ (r : Option (List (List ℕ))). steps r (chunk_groups kinds (record { count = k; columns = first_records k (later_records e cs) }))) way.streams) ∙ sym same-gone

    abbrev so_far : List Spelled
    so_far = packets_so_far kinds n e (first_records e cs)

    abbrev so_far_then : List Spelled
    so_far_then = packets_so_far kinds n (e + k) (first_records (e + k) cs)

    -- how many bytes they have where the chunk is filled
    pub size-full : e % n + k ≡ n → length (packets_bytes so_far) + length (packets_bytes (flagged (not chunks.run.is_begun) ((gone from k fields chunks.run).done ++ flushed (gone from k fields chunks.run).run))) ≡ length (packets_bytes so_far_then)
    size-full full =
        let step = gone from k fields chunks.run in
        let rest = rest-mod n e in
        let flag : is_nil (open_packets kinds n e (first_records e cs)) ≡ not chunks.run.is_begun = way.begun in
        let packets : so_far_then ≡ so_far ++ flagged (not chunks.run.is_begun) (step.done ++ flushed step.run) =
        ap (packets_so_far kinds n (e + k)) (sym (next-records e k cs)) ∙ packets-full kinds n e (first_records e cs) k (first_records k (later_records e cs)) may (omega (arith, rest, full))
        ∙ ap (λ b. so_far ++ flagged b ((step_on kinds n e (first_records e cs) k (first_records k (later_records e cs)) may).done ++ flushed (step_on kinds n e (first_records e cs) k (first_records k (later_records e cs)) may).run)) flag
        ∙ ap (λ (s : Step). so_far ++ flagged (not chunks.run.is_begun) (s.done ++ flushed s.run)) step_is in
        let sum = ap (λ (ps : List Spelled). length (packets_bytes ps)) packets ∙ length-packets_bytes-append so_far (flagged (not chunks.run.is_begun) (step.done ++ flushed step.run)) in
        omega (arith, sum)

    size-open : e % n + k < n → length (packets_bytes so_far) + length (packets_bytes (flagged (not chunks.run.is_begun) (gone from k fields chunks.run).done)) ≡ length (packets_bytes so_far_then)
    size-open open_still =
        let step = gone from k fields chunks.run in
        let rest = rest-mod n e in
        let flag : is_nil (open_packets kinds n e (first_records e cs)) ≡ not chunks.run.is_begun = way.begun in
        let packets : so_far_then ≡ so_far ++ flagged (not chunks.run.is_begun) step.done =
        ap (packets_so_far kinds n (e + k)) (sym (next-records e k cs)) ∙ packets-on kinds n e (first_records e cs) k (first_records k (later_records e cs)) may (omega (arith, rest, open_still))
        ∙ ap (λ b. so_far ++ flagged b (step_on kinds n e (first_records e cs) k (first_records k (later_records e cs)) may).done) flag
        ∙ ap (λ (s : Step). so_far ++ flagged (not chunks.run.is_begun) s.done) step_is in
        let sum = ap (λ (ps : List Spelled). length (packets_bytes ps)) packets ∙ length-packets_bytes-append so_far (flagged (not chunks.run.is_begun) step.done) in
        omega (arith, sum)

    -- what is put stays within what is put of more records
    pub size-on : length (packets_bytes so_far) + length (packets_bytes (flagged (not chunks.run.is_begun) (gone from k fields chunks.run).done)) ≤ length (packets_bytes so_far_then)
    size-on = ⊎_elim
        (λ (open_still : e % n + k < n). let is = size-open open_still in omega (arith, is))
        (λ (full : n ≤ e % n + k).
        let step = gone from k fields chunks.run in
        let is = size-full (omega (arith, full, within)) in
        let parts = ap (λ (ps : List Spelled). length (packets_bytes ps)) (flagged-append (not chunks.run.is_begun) step.done (flushed step.run)) in
        let both = length-packets_bytes-append (flagged (not chunks.run.is_begun) step.done) (flagged (not chunks.run.is_begun && is_nil step.done) (flushed step.run)) in
        omega (arith, is, parts, both))
        (cases_lt (e % n + k) n)

  -- ---- what a turn leaves

  chunked-open : (fields_now : List Waiting) (run_now : Run) (now : Writing T) → e % n + k < n → Goes view from k fields chunks.run out fields_now run_now now → IsChunked (e + k) fields_now (record begun { run = run_now })
  chunked-open fields_now run_now now h goes =
      let rest = rest-open n e k chunked.some h in
      let same = same_but in
      record {
        gathered = goes.gathered;
        some = omega (arith, same.records, chunked.some);
        groups = ap (λ m. m % 8) same.records ∙ chunked.groups;
        few = omega (arith, same.records, chunked.few);
        limit = omega (arith, same.at_most, chunked.limit);
        most = goes.most ∙ chunked.most ∙ ap (λ m. min m chunks.at_most) (sym same.records) ∙ ap (λ m. min begun.records m) (sym same.at_most);
        within = subst (λ m. run_now.records ≤ (e + k) % m) (sym same.records) (omega (arith, rest, goes.few, chunked.within));
        entries = same.entries ∙ ap (λ m. chunks_begun m (e + k)) (sym same.records);
        room = same.room ∙ chunked.room ∙ ap (λ m. chunks_begun m chunks.at_most) (sym same.records) ∙ ap (λ m. chunks_begun begun.records m) (sym same.at_most);
      }

  chunked-full : (mid now : Writing T) (fields_mid fields_now : List Waiting) (run_mid run_now : Run) → Goes view from k fields chunks.run out fields_mid run_mid mid → EndsRun view fields_mid run_mid mid fields_now run_now now → IsChunked (e + k) fields_now (record begun { run = run_now })
  chunked-full mid now fields_mid fields_now run_mid run_now goes ends =
      let same = same_but in
      let none : run_now.records ≡ 0 = ap (λ (r : Run). r.records) ends.reset in
      record {
        gathered = subst (λ (ws : List Waiting). IsGathered ws run_now) (sym ends.emptied) (subst (λ (r : Run). IsGathered (map cleared fields_mid) r) (sym ends.reset) (gathered_cleared fields_mid run_mid false goes.gathered));
        some = omega (arith, same.records, chunked.some);
        groups = ap (λ m. m % 8) same.records ∙ chunked.groups;
        few = omega (arith, same.records, chunked.few);
        limit = omega (arith, same.at_most, chunked.limit);
        most = ap (λ (r : Run). r.most) ends.reset ∙ goes.most ∙ chunked.most ∙ ap (λ m. min m chunks.at_most) (sym same.records) ∙ ap (λ m. min begun.records m) (sym same.at_most);
        within = omega (arith, none);
        entries = same.entries ∙ ap (λ m. chunks_begun m (e + k)) (sym same.records);
        room = same.room ∙ chunked.room ∙ ap (λ m. chunks_begun m chunks.at_most) (sym same.records) ∙ ap (λ m. chunks_begun begun.records m) (sym same.at_most);
      }

  pub turns_open : (fields_now : List Waiting) (run_now : Run) (now : Writing T) → e % n + k < n → Goes view from k fields chunks.run out fields_now run_now now → Turns view e from k fields chunks out fields_now (record begun { run = run_now }) now
  turns_open fields_now run_now now h goes =
      let same = same_but in
      record {
        chunked = chunked-open fields_now run_now now h goes;
        kinds = goes.kinds;
        columns = goes.columns;
        records = same.records;
        at_most = same.at_most;
        state = goes.puts.state;
        target = goes.puts.target;
        held = goes.puts.held;
        grows = let size = goes.puts.size in omega (arith, size);
        way = λ before start count cs next there way. way_open before start count cs next there way fields_now run_now now h goes;
      }

  pub turns_full : (mid now : Writing T) (fields_mid fields_now : List Waiting) (run_mid run_now : Run) → e % n + k ≡ n → Goes view from k fields chunks.run out fields_mid run_mid mid → EndsRun view fields_mid run_mid mid fields_now run_now now → Turns view e from k fields chunks out fields_now (record begun { run = run_now }) now
  turns_full mid now fields_mid fields_now run_mid run_now h goes ends =
      let same = same_but in
      record {
        chunked = chunked-full mid now fields_mid fields_now run_mid run_now goes ends;
        kinds = ap kinds_of ends.emptied ∙ kinds-cleared fields_mid ∙ goes.kinds;
        columns = ap columns_of ends.emptied ∙ columns-cleared fields_mid ∙ goes.columns;
        records = same.records;
        at_most = same.at_most;
        state = ends.puts.state;
        target = keeps_both (view out.target) (view mid.target) (view now.target) goes.puts.target ends.puts.target;
        held = ends.puts.held ∙ goes.puts.held;
        grows = let size = goes.puts.size in let more = ends.puts.size in omega (arith, size, more);
        way = λ before start count cs next there way. way_full before start count cs next there way mid now fields_mid fields_now run_mid run_now h goes ends;
      }

-- ---- where a turn fails

-- more records have more bytes
pub data-grows : (start : ℕ) (kinds : List ItemKind) (n count e k : ℕ) (cs : List (List Value)) → 0 < n → n % 8 ≡ 0 → AreColumns kinds count cs → e % 8 ≡ 0 → e + k ≤ count → data_end start kinds n e cs ≤ data_end start kinds n (e + k) cs
data-grows start kinds n count e k cs some groups are whole there =
    let more = front-length (packets_so_far kinds n e (first_records e cs)) (packets_so_far kinds n (e + k) (first_records (e + k) cs)) (front-any kinds n count cs some groups are e k whole there) in
    omega (arith, more)

module _ {T : Type 0} (view : T → TargetView) (e from k most : ℕ) (fields : List Waiting) (chunks begun : Chunks) (out : Writing T) (chunked : IsChunked e fields chunks) (whole : e % 8 ≡ 0) (begins : BeginsChunk e out.size chunks begun) (are : AreGroups k most) (within : e % chunks.records + k ≤ chunks.records) where
  -- the first k records already pass the end
  passes-all : (before : Option (List ℕ)) (start count : ℕ) (cs : List (List Value)) → AreNext count cs e from fields → e + most ≤ count → data_end start (kinds_of fields) chunks.records (e + k) cs ≤ data_end start (kinds_of fields) chunks.records (e + most) cs
  passes-all before start count cs next there = ⊎_elim
      (λ (all : k ≡ most). subst (λ m. data_end start (kinds_of fields) chunks.records (e + k) cs ≤ data_end start (kinds_of fields) chunks.records (e + m) cs) all (omega arith))
      (λ (eights : k % 8 ≡ 0).
      let few = are.1 in
      let sum : e + k + (most - k) ≡ e + most = omega (arith, few) in
      subst (λ m. data_end start (kinds_of fields) chunks.records (e + k) cs ≤ data_end start (kinds_of fields) chunks.records m cs) sum
      (data-grows start (kinds_of fields) chunks.records count (e + k) (most - k) cs chunked.some chunked.groups next.columns (omega (arith, whole, eights)) (omega (arith, there, few))))
      are.2

  pub passes_first : (run : Run) → run ≡ begun.run → most_bytes < out.size + length (packets_bytes (flagged (not run.is_begun) (gone from k fields run).done)) → PassesAt e from most fields chunks out
  passes_first run is past before start count cs next there way =
      let same = same_but view e from k fields chunks begun out chunked whole begins are.0 within in
      let here = subst (λ (r : Run). most_bytes < out.size + length (packets_bytes (flagged (not r.is_begun) (gone from k fields r).done))) (is ∙ same.run) past in
      let few = are.1 in
      let size = size-on view e from k fields chunks begun out chunked whole begins are.0 within before start count cs next (omega (arith, there, few)) way in
      let most_size = passes-all before start count cs next there in
      omega (arith, here, size, way.size, most_size)

  pub passes_last : (mid : Writing T) (fields_mid : List Waiting) (run_mid run : Run) → run ≡ begun.run → e % chunks.records + k ≡ chunks.records → Goes view from k fields run out fields_mid run_mid mid → most_bytes < mid.size + length (run_packets fields_mid run_mid) → PassesAt e from most fields chunks out
  passes_last mid fields_mid run_mid run is full goes past before start count cs next there way =
      let same = same_but view e from k fields chunks begun out chunked whole begins are.0 within in
      let goes_same = subst (λ (r : Run). Goes view from k fields r out fields_mid run_mid mid) (is ∙ same.run) goes in
      let few = are.1 in
      let step = gone from k fields chunks.run in
      let size = size-full view e from k fields chunks begun out chunked whole begins are.0 within before start count cs next (omega (arith, there, few)) way full in
      let both = ap (λ (bytes : List ℕ). length bytes) (sym (all-packets view from k fields chunks.run out mid fields_mid run_mid goes_same)) ∙ length-append (packets_bytes (flagged (not chunks.run.is_begun) step.done)) (run_packets fields_mid run_mid) in
      let high = goes_same.puts.size in
      let most_size = passes-all before start count cs next there in
      omega (arith, past, size, way.size, both, high, most_size)

-- ---- a turn, as its calls leave it

abbrev not_turned : {T : Type 0} → (T → TargetView) → ℕ → ℕ → ℕ → List Waiting → Chunks → Writing T → Writing T → WriteFault → Type 0
not_turned view e from most fields chunks out now fault = (now.is_spent ≡ true) × LosesRecords view out (PassesAt e from most fields chunks out) (HasText fields) fault (view now.target)

module _ {T : Type 0} (view : T → TargetView) (e from most within : ℕ) (fields : List Waiting) (chunks begun : Chunks) (out : Writing T) (chunked : IsChunked e fields chunks) (whole : e % 8 ≡ 0) (some : 0 < most) (begins : BeginsChunk e out.size chunks begun) (is : within ≡ min most (chunks.records - e % chunks.records)) where
  chunk_rest : e % chunks.records < chunks.records
  chunk_rest = mod-lt e chunked.some

  pub lost_first : (now : Writing T) (fault : WriteFault) → not_advanced view from within fields begun.run out now fault → not_turned view e from most fields chunks out now fault
  lost_first now fault lost =
      let rest = chunk_rest in
      let k = min 8 within in
      let are : AreGroups k most = groups_wider chunks.records e k most chunked.some chunked.groups whole (subst (λ m. AreGroups k m) is (first-are within (omega (arith, is, some, rest)))) in (
        lost.0,
        loses_more view out (most_bytes < out.size + length (packets_bytes (flagged (not begun.run.is_begun) (gone from k fields begun.run).done))) (PassesAt e from most fields chunks out) (HasText fields) (HasText fields) fault (view now.target)
            (λ past. passes_first view e from k most fields chunks begun out chunked whole begins are (omega (arith, is, rest)) begun.run refl past) (λ text. text) lost.1,
      )

  pub turned_open : (k : ℕ) (fields_now : List Waiting) (run_now : Run) (now : Writing T) → AreGroups k within → Goes view from k fields begun.run out fields_now run_now now → k < chunks.records - e % chunks.records → AreGroups k most × Turns view e from k fields chunks out fields_now (record begun { run = run_now }) now
  turned_open k fields_now run_now now are goes open_still =
      let rest = chunk_rest in
      let few = are.1 in
      let fits : e % chunks.records + k ≤ chunks.records = omega (arith, open_still) in
      let same = same_but view e from k fields chunks begun out chunked whole begins are.0 fits in (
        groups_wider chunks.records e k most chunked.some chunked.groups whole (subst (λ m. AreGroups k m) is are),
        turns_open view e from k fields chunks begun out chunked whole begins are.0 fits fields_now run_now now (omega (arith, open_still)) (subst (λ (r : Run). Goes view from k fields r out fields_now run_now now) same.run goes),
      )

  pub turned_full : (k : ℕ) (mid now : Writing T) (fields_mid fields_now : List Waiting) (run_mid run_now : Run) → AreGroups k within → Goes view from k fields begun.run out fields_mid run_mid mid → chunks.records - e % chunks.records ≤ k → EndsRun view fields_mid run_mid mid fields_now run_now now
      → AreGroups k most × Turns view e from k fields chunks out fields_now (record begun { run = run_now }) now
  turned_full k mid now fields_mid fields_now run_mid run_now are goes full ends =
      let rest = chunk_rest in
      let few = are.1 in
      let fits : e % chunks.records + k ≤ chunks.records = omega (arith, is, few, rest) in
      let same = same_but view e from k fields chunks begun out chunked whole begins are.0 fits in (
        groups_wider chunks.records e k most chunked.some chunked.groups whole (subst (λ m. AreGroups k m) is are),
        turns_full view e from k fields chunks begun out chunked whole begins are.0 fits mid now fields_mid fields_now run_mid run_now (omega (arith, full, fits)) (subst (λ (r : Run). Goes view from k fields r out fields_mid run_mid mid) same.run goes) ends,
      )

  pub lost_last : (k : ℕ) (mid now : Writing T) (fields_mid : List Waiting) (run_mid : Run) (fault : WriteFault) → AreGroups k within → Goes view from k fields begun.run out fields_mid run_mid mid → chunks.records - e % chunks.records ≤ k
      → (now.is_spent ≡ true) × LosesRecords view mid (most_bytes < mid.size + length (run_packets fields_mid run_mid)) ⊥ fault (view now.target) → not_turned view e from most fields chunks out now fault
  lost_last k mid now fields_mid run_mid fault are goes full lost =
      let rest = chunk_rest in
      let few = are.1 in
      let fits : e % chunks.records + k ≤ chunks.records = omega (arith, is, few, rest) in
      let wider = groups_wider chunks.records e k most chunked.some chunked.groups whole (subst (λ m. AreGroups k m) is are) in (
        lost.0,
        loses_behind view out mid (most_bytes < mid.size + length (run_packets fields_mid run_mid)) (PassesAt e from most fields chunks out) ⊥ (HasText fields) fault (view now.target) goes.puts.target
            (λ past. passes_last view e from k most fields chunks begun out chunked whole begins wider fits mid fields_mid run_mid begun.run refl (omega (arith, full, fits)) goes past) (λ none. absurd none) lost.1,
      )

-- Laws of the steps of a writer: each leads to the run and the packets of the definition.
use Rattle.std.proofs.Common.{◌≡◌, ℕ, zero, suc, ◌+◌, ◌%◌, ◌<◌, ◌≤◌, min, Bool, true, false, List, [], ◌∷◌, ◌++◌, length, map, None, refl, sym, ap, subst, ◌∙◌, arith, inl, inr, ⊎_elim}
use Rattle.std.specs.Prelude.{not, ◌||◌, nat_lt, ◌⊎◌, Result, Ok, Err, MatchResult}
use Rattle.std.specs.List.{AllByRecursion}
use Rattle.std.proofs.lemmas.Bool.{cases_lt, lt-ltb}
use Rattle.std.proofs.lemmas.List.{append-nil, length-append}
use Rattle.e57_base.specs.Fault.{put_as_write}
use Rattle.e57_base.specs.Target.{TargetView}
use Rattle.e57_base.specs.declared.fault.PutFault.{PutFault}
use Rattle.e57_base.specs.declared.fault.PutFault.TheVariants.{Target, Large}
use Rattle.e57_base.specs.declared.fault.WriteFault.{WriteFault}
use Rattle.e57_base.specs.declared.fault.WriteFault.TheVariants.{Target as WriteTarget, Large as WriteLarge, Memory}
use Rattle.e57_base.proofs.CountLaws.{rose_before}
use Rattle.e57_layout.specs.Packets.{data_packet}
use Rattle.e57_layout.specs.Packing.{first_records, later_records, poured, fits_packet, room_for, flushed, chunk_groups}
use Rattle.e57_layout.specs.Steps.{Step, steps}
use Rattle.e57_layout.specs.Values.{ItemKind, Value}
use Rattle.e57_layout.specs.Written.{flagged, packets_bytes}
use Rattle.e57_page_out.specs.Sequences.{Loses, Puts}
use Rattle.e57_page_out.specs.Writing.{Writing, IsBeingWritten, KeepsTarget, most_bytes}
use Rattle.e57_page_out.proofs.Sequences.{puts_both, puts_nothing, leaves_later}
use Rattle.e57_chunk_out.specs.Waiting.{Waiting, taken, cleared, IsWaiting}
use Rattle.e57_chunk_out.specs.Cutting.{streams_of}
use Rattle.e57_chunk_out.specs.SideBySide.{Has, HasText}
use Rattle.e57_chunk_out.specs.Grouping.{kinds_of, columns_of, run_of, IsFresh}
use Rattle.e57_chunk_out.specs.Going.{gone, has_run, records_at, run_packets, AreGroups, EndsRun, Goes, IsGathered, LosesRecords}
use Rattle.e57_chunk_out.specs.Progress.{is_nil}
use Rattle.e57_chunk_out.specs.declared.run.Run.{Run}
use Rattle.e57_chunk_out.proofs.RunLaws.{gathered_taken, gathered_cleared, cleared-fresh, text-cleared}
use Rattle.e57_chunk_out.proofs.Grouping.{kinds-taken, columns-taken, groups-fit, groups-flush, groups-poured}
use Rattle.e57_chunk_out.proofs.Pouring.{flagged-bytes, nothing-flagged}
use Rattle.e57_chunk_out.proofs.Side.{grown, length-grown, over-total, has-less}
use Rattle.e57_chunk_out.proofs.Stepping.{pour-step}

-- ---- failures

-- a failure of a put, as one of a write
pub loses_put : {T : Type 0} (view : T → TargetView) (old : Writing T) (past text : Type 0) (given : PutFault) (fault : WriteFault) (now : TargetView) → fault ≡ put_as_write given → Loses view old past given now → LosesRecords view old past text fault now
loses_put view old past text given fault now is lost = subst (λ f. LosesRecords view old past text f now) (sym is) (by_fault given lost)
  where
    by_fault : (given : PutFault) → Loses view old past given now → LosesRecords view old past text (put_as_write given) now
    by_fault Target lost = lost
    by_fault Large lost = lost

pub loses_more : {T : Type 0} (view : T → TargetView) (old : Writing T) (past more text texts : Type 0) (fault : WriteFault) (now : TargetView) → (past → more) → (text → texts) → LosesRecords view old past text fault now → LosesRecords view old more texts fault now
loses_more view old past more text texts WriteTarget now wider also lost = lost
loses_more view old past more text texts WriteLarge now wider also lost = (lost.0, wider lost.1)
loses_more view old past more text texts Memory now wider also lost = (lost.0, also lost.1)

-- a failure after a call that was done
pub loses_behind : {T : Type 0} (view : T → TargetView) (a b : Writing T) (past more text texts : Type 0) (fault : WriteFault) (now : TargetView) → KeepsTarget (view a.target) (view b.target) → (past → more) → (text → texts) → LosesRecords view b past text fault now → LosesRecords view a more texts fault now
loses_behind view a b past more text texts WriteTarget now done wider also lost = (leaves_later view a b now done lost.0, rose_before (view a.target).faults (view b.target).faults now.faults done.faults lost.1)
loses_behind view a b past more text texts WriteLarge now done wider also lost = (leaves_later view a b now done lost.0, wider lost.1)
loses_behind view a b past more text texts Memory now done wider also lost = (leaves_later view a b now done lost.0, also lost.1)

-- ---- the three steps

has-more : (records n : ℕ) → 0 < n → nat_lt 0 (records + n) ≡ true
has-more records n some = lt-ltb 0 (records + n) (omega arith)

or-none : (b : Bool) → b ≡ (b || not true)
or-none true = refl
or-none false = refl

or-some : (b : Bool) → true ≡ (b || not false)
or-some true = refl
or-some false = refl

pub kinds-cleared : (fields : List Waiting) → kinds_of (map cleared fields) ≡ kinds_of fields
kinds-cleared [] = refl
kinds-cleared (w ∷ fields) = ap (λ (ks : List ItemKind). w.kind ∷ ks) (kinds-cleared fields)

pub columns-cleared : (fields : List Waiting) → columns_of (map cleared fields) ≡ columns_of fields
columns-cleared [] = refl
columns-cleared (w ∷ fields) = ap (λ (cs : List (List Value)). w.items ∷ cs) (columns-cleared fields)

poured-some : (ss : List (List ℕ)) (n : ℕ) → length ss ≡ n → n ≤ 512 → fits_packet ss ≡ false → is_nil (poured ss) ≡ false
unfolding poured
poured-some ss n size few over =
    let many = over-total ss n size few over in
    ap (λ (ps : List (List (List ℕ))). is_nil ps) (pour-step (room_for (length ss)) ss (omega arith) (omega arith))

module _ {T : Type 0} (view : T → TargetView) (from k : ℕ) (fields : List Waiting) (run : Run) (out : Writing T) (gathered : IsGathered fields run) (there : AllByRecursion (Has (from + k)) fields) (some : 0 < k) where
  fresh-if : has_run run ≡ false → AllByRecursion IsFresh fields
  fresh-if none = ⊎_elim (λ (zero : run.records ≡ 0). gathered.fresh zero) (λ (more : 0 < run.records). absurd (clash (sym (lt-ltb 0 run.records more) ∙ none))) (none-or run.records)
    where
      clash : true ≡ false → ⊥
      clash e = subst (λ b. if_so b) e tt
        where
          if_so : Bool → Type 0
          if_so true = Unit {0}
          if_so false = ⊥

      none-or : (n : ℕ) → (n ≡ 0) ⊎ (0 < n)
      none-or zero = inl refl
      none-or (suc n) = inr (omega arith)

  pub goes_taken : IsBeingWritten view out → fits_packet (grown from k fields) ≡ true → Goes view from k fields run out (map (taken from k) fields) (record run { records = run.records + k }) out
  goes_taken state fit =
      let is = groups-fit from k fields (has_run run) some gathered.waiting there fresh-if fit in
      record {
        gathered = gathered_taken from k fields run gathered some there fit;
        most = refl;
        kinds = kinds-taken from k fields;
        columns = columns-taken from k fields;
        few = omega arith;
        streams = ap (λ b. run_of b (map (taken from k) fields)) (has-more run.records k some) ∙ ap (λ (s : Step). s.run) (sym is);
        begun = or-none run.is_begun ∙ ap (λ (s : Step). run.is_begun || not (is_nil s.done)) (sym is);
        puts = subst (λ (bytes : List ℕ). Puts view out bytes out) (sym (ap (λ (s : Step). packets_bytes (flagged (not run.is_begun) s.done)) is ∙ nothing-flagged (not run.is_begun))) (puts_nothing view out state);
      }

  -- what is led to where no run is under way
  gone-alone : run.records ≡ 0 → gone from k fields run ≡ steps None (chunk_groups (kinds_of fields) (record { count = k; columns = records_at from k fields }))
  gone-alone none = ap (λ r. steps (run_of (nat_lt 0 r) fields) (chunk_groups (kinds_of fields) (record { count = k; columns = records_at from k fields }))) none

  pub gone-poured : run.records ≡ 0 → k ≤ 8 → fits_packet (grown from k fields) ≡ false → gone from k fields run ≡ record { done = poured (grown from k fields); run = None }
  gone-poured none few over = gone-alone none ∙ groups-poured from k k fields some gathered.waiting there (omega arith) few (gathered.fresh none) over

  pub goes_poured : (now : Writing T) → run.records ≡ 0 → k ≤ 8 → fits_packet (grown from k fields) ≡ false → Puts view out (packets_bytes (flagged (not run.is_begun) (poured (grown from k fields)))) now
      → Goes view from k fields run out (map cleared fields) (record run { is_begun = true }) now
  goes_poured now none few over puts =
      let is = gone-poured none few over in
      let count = length-grown from k fields in
      record {
        gathered = subst (λ r. IsGathered (map cleared fields) (record run { records = r; is_begun = true })) (sym none) (gathered_cleared fields run true gathered);
        most = refl;
        kinds = kinds-cleared fields;
        columns = columns-cleared fields;
        few = omega arith;
        streams = ap (λ r. run_of (nat_lt 0 r) (map cleared fields)) none ∙ ap (λ (s : Step). s.run) (sym is);
        begun = or-some run.is_begun ∙ ap (λ b. run.is_begun || not b) (sym (poured-some (grown from k fields) (length fields) count gathered.few over)) ∙ ap (λ (s : Step). run.is_begun || not (is_nil s.done)) (sym is);
        puts = subst (λ (ps : List (List (List ℕ))). Puts view out (packets_bytes (flagged (not run.is_begun) ps)) now) (ap (λ (s : Step). s.done) (sym is)) puts;
      }

  abbrev flushed_fields : List Waiting
  flushed_fields = map cleared fields

  abbrev flushed_run : Run
  flushed_run = record run { records = 0; is_begun = true }

  -- what is led to behind the run's packet
  gone-behind : gone from k flushed_fields flushed_run ≡ steps None (chunk_groups (kinds_of fields) (record { count = k; columns = records_at from k fields }))
  gone-behind =
      ap (λ (ks : List ItemKind). steps None (chunk_groups ks (record { count = k; columns = records_at from k flushed_fields }))) (kinds-cleared fields)
      ∙ ap (λ (cs : List (List Value)). steps None (chunk_groups (kinds_of fields) (record { count = k; columns = first_records k (later_records from cs) }))) (columns-cleared fields)

  gone-flushed : (most : ℕ) → 0 < run.records → k ≤ most → min 8 most ≤ k → fits_packet (grown from (min 8 most) fields) ≡ false
      → gone from k fields run ≡ record { done = streams_of fields ∷ (gone from k flushed_fields flushed_run).done; run = (gone from k flushed_fields flushed_run).run }
  gone-flushed most more within many over =
      ap (λ b. steps (run_of b fields) (chunk_groups (kinds_of fields) (record { count = k; columns = records_at from k fields }))) (lt-ltb 0 run.records more)
      ∙ groups-flush from k most fields some gathered.waiting there within many over
      ∙ ap (λ (s : Step). record { done = streams_of fields ∷ s.done; run = s.run }) (sym gone-behind)

  pub gone-first : (most : ℕ) → 0 < run.records → k ≤ most → min 8 most ≤ k → fits_packet (grown from (min 8 most) fields) ≡ false
      → packets_bytes (flagged (not run.is_begun) (gone from k fields run).done) ≡ data_packet (not run.is_begun) (streams_of fields) ++ packets_bytes (flagged false (gone from k flushed_fields flushed_run).done)
  gone-first most more within many over =
      ap (λ (s : Step). packets_bytes (flagged (not run.is_begun) s.done)) (gone-flushed most more within many over)
      ∙ flagged-bytes (not run.is_begun) (streams_of fields) (gone from k flushed_fields flushed_run).done

  pub goes_flushed : (most : ℕ) (mid now : Writing T) (fields_now : List Waiting) (run_now : Run) → 0 < run.records → k ≤ most → min 8 most ≤ k → fits_packet (grown from (min 8 most) fields) ≡ false
      → Puts view out (data_packet (not run.is_begun) (streams_of fields)) mid → Goes view from k flushed_fields flushed_run mid fields_now run_now now → Goes view from k fields run out fields_now run_now now
  goes_flushed most mid now fields_now run_now more within many over first next =
      let is = gone-flushed most more within many over in
      record {
        gathered = next.gathered;
        most = next.most;
        kinds = next.kinds ∙ kinds-cleared fields;
        columns = next.columns ∙ columns-cleared fields;
        few = omega (arith, next.few);
        streams = next.streams ∙ ap (λ (s : Step). s.run) (sym is);
        begun = next.begun ∙ or-some run.is_begun ∙ ap (λ (s : Step). run.is_begun || not (is_nil s.done)) (sym is);
        puts = subst (λ (bytes : List ℕ). Puts view out bytes now) (sym (gone-first most more within many over))
            (puts_both view out mid now (data_packet (not run.is_begun) (streams_of fields)) (packets_bytes (flagged false (gone from k flushed_fields flushed_run).done)) first next.puts);
      }

-- ---- the end of a chunk

flushed-none : (fields : List Waiting) (run : Run) → run.records ≡ 0 → run_packets fields run ≡ []
flushed-none fields run none = ap (λ r. packets_bytes (flagged (not run.is_begun) (flushed (run_of (nat_lt 0 r) fields)))) none ∙ nothing-flagged (not run.is_begun)

pub flushed-some : (fields : List Waiting) (run : Run) → 0 < run.records → run_packets fields run ≡ data_packet (not run.is_begun) (streams_of fields)
flushed-some fields run more =
    ap (λ b. packets_bytes (flagged (not run.is_begun) (flushed (run_of b fields)))) (lt-ltb 0 run.records more)
    ∙ flagged-bytes (not run.is_begun) (streams_of fields) []
    ∙ ap (λ (bytes : List ℕ). data_packet (not run.is_begun) (streams_of fields) ++ bytes) (nothing-flagged false)
    ∙ append-nil (data_packet (not run.is_begun) (streams_of fields))

pub ends-none : {T : Type 0} (view : T → TargetView) (fields : List Waiting) (run : Run) (out : Writing T) → IsGathered fields run → IsBeingWritten view out → run.records ≡ 0 → EndsRun view fields run out fields (record run { is_begun = false }) out
ends-none view fields run out gathered state none =
    record {
      emptied = sym (cleared-fresh fields (gathered.fresh none));
      reset = ap (λ r. record run { records = r; is_begun = false }) none;
      puts = subst (λ (bytes : List ℕ). Puts view out bytes out) (sym (flushed-none fields run none)) (puts_nothing view out state);
    }

pub ends-some : {T : Type 0} (view : T → TargetView) (fields : List Waiting) (run : Run) (out now : Writing T) (fields_now : List Waiting) (run_now : Run) → 0 < run.records → fields_now ≡ map cleared fields → run_now ≡ record run { records = 0; is_begun = true } → Puts view out (data_packet (not run.is_begun) (streams_of fields)) now
    → EndsRun view fields run out fields_now (record run_now { is_begun = false }) now
ends-some view fields run out now fields_now run_now more first second puts = record { emptied = first; reset = ap (λ (r : Run). record r { is_begun = false }) second; puts = subst (λ (bytes : List ℕ). Puts view out bytes now) (sym (flushed-some fields run more)) puts }

-- ---- answers

pub answer-more : {A B : Type 0} (result : Result A B) (P P' : A → Type 0) (Q Q' : B → Type 0) → MatchResult result P Q → ((x : A) → P x → P' x) → ((fault : B) → Q fault → Q' fault) → MatchResult result P' Q'
answer-more (Ok x) P P' Q Q' h f g = f x h
answer-more (Err fault) P P' Q Q' h f g = g fault h

pub most-few : (from n : ℕ) (fields : List Waiting) → 0 < length fields → AllByRecursion IsWaiting fields → AllByRecursion (Has (from + n)) fields → from + n ≤ 1031
most-few from n [] some waiting there = absurd (omega arith)
most-few from n (w ∷ fields) some waiting there = omega (arith, waiting.0.few, there.0)

-- some of the records of which this many are there
pub there-some : (from n k : ℕ) (fields : List Waiting) → k ≤ n → AllByRecursion (Has (from + n)) fields → AllByRecursion (Has (from + k)) fields
there-some from n k fields h there = has-less (from + n) (from + k) fields (omega arith) there

pub are-groups : (n most : ℕ) → 0 < n → n ≤ most → (n ≡ most) ⊎ (n % 8 ≡ 0) → AreGroups n most
are-groups n most some few whole = (some, few, whole)

pub first-are : (most : ℕ) → 0 < most → AreGroups (min 8 most) most
first-are most some = (omega arith, omega arith, ⊎_elim (λ (few : most < 8). inl (omega (arith, few))) (λ (many : 8 ≤ most). let eight : min 8 most ≡ 8 = omega arith in inr (ap (λ m. m % 8) eight)) (cases_lt most 8))

-- the least of groups
pub least-group : (k most : ℕ) → AreGroups k most → min 8 most ≤ k
least-group k most are = ⊎_elim (λ (all : k ≡ most). omega (arith, all)) (λ (eights : k % 8 ≡ 0). let some = are.0 in omega (arith, eights)) are.2

-- a group that is poured is lost as what it leads to
pub lost_poured : {T : Type 0} (view : T → TargetView) (from most : ℕ) (fields : List Waiting) (run : Run) (out : Writing T) (fault : WriteFault) (now : TargetView) → IsGathered fields run → AllByRecursion (Has (from + most)) fields → 0 < most → run.records ≡ 0 → fits_packet (grown from (min 8 most) fields) ≡ false
    → LosesRecords view out (most_bytes < out.size + length (packets_bytes (flagged (not run.is_begun) (poured (grown from (min 8 most) fields))))) (HasText fields) fault now
    → LosesRecords view out (most_bytes < out.size + length (packets_bytes (flagged (not run.is_begun) (gone from (min 8 most) fields run).done))) (HasText fields) fault now
lost_poured view from most fields run out fault now gathered there some none over lost =
    let is = gone-poured view from (min 8 most) fields run out gathered (there-some from most (min 8 most) fields (omega arith) there) (omega (arith, some)) none (omega arith) over in
    subst (λ (s : Step). LosesRecords view out (most_bytes < out.size + length (packets_bytes (flagged (not run.is_begun) s.done))) (HasText fields) fault now) (sym is) lost

module _ {T : Type 0} (view : T → TargetView) (from most : ℕ) (fields : List Waiting) (run : Run) (out : Writing T) (fault : WriteFault) (now : TargetView) (gathered : IsGathered fields run) (there : AllByRecursion (Has (from + most)) fields) (some : 0 < most) (more : 0 < run.records) (over : fits_packet (grown from (min 8 most) fields) ≡ false) where
  first-size : length (packets_bytes (flagged (not run.is_begun) (gone from (min 8 most) fields run).done)) ≡ length (data_packet (not run.is_begun) (streams_of fields)) + length (packets_bytes (flagged false (gone from (min 8 most) (map cleared fields) (record run { records = 0; is_begun = true })).done))
  first-size =
      let is = gone-first view from (min 8 most) fields run out gathered (there-some from most (min 8 most) fields (omega arith) there) (omega (arith, some)) most more (omega arith) (omega arith) over in
      ap (λ (bytes : List ℕ). length bytes) is ∙ length-append (data_packet (not run.is_begun) (streams_of fields)) (packets_bytes (flagged false (gone from (min 8 most) (map cleared fields) (record run { records = 0; is_begun = true })).done))

  -- the run's packet
  pub lost_run : LosesRecords view out (most_bytes < out.size + length (data_packet (not run.is_begun) (streams_of fields))) ⊥ fault now
      → LosesRecords view out (most_bytes < out.size + length (packets_bytes (flagged (not run.is_begun) (gone from (min 8 most) fields run).done))) (HasText fields) fault now
  lost_run lost =
      let size = first-size in
      loses_more view out (most_bytes < out.size + length (data_packet (not run.is_begun) (streams_of fields))) (most_bytes < out.size + length (packets_bytes (flagged (not run.is_begun) (gone from (min 8 most) fields run).done))) ⊥ (HasText fields) fault now (λ past. omega (arith, size, past)) (λ none. absurd none) lost

  -- and what comes behind it
  pub lost_behind : (mid : Writing T) → Puts view out (data_packet (not run.is_begun) (streams_of fields)) mid
      → LosesRecords view mid (most_bytes < mid.size + length (packets_bytes (flagged false (gone from (min 8 most) (map cleared fields) (record run { records = 0; is_begun = true })).done))) (HasText (map cleared fields)) fault now
      → LosesRecords view out (most_bytes < out.size + length (packets_bytes (flagged (not run.is_begun) (gone from (min 8 most) fields run).done))) (HasText fields) fault now
  lost_behind mid puts lost =
      let size = first-size in
      let high = puts.size in
      loses_behind view out mid (most_bytes < mid.size + length (packets_bytes (flagged false (gone from (min 8 most) (map cleared fields) (record run { records = 0; is_begun = true })).done))) (most_bytes < out.size + length (packets_bytes (flagged (not run.is_begun) (gone from (min 8 most) fields run).done))) (HasText (map cleared fields)) (HasText fields) fault now puts.target (λ past. omega (arith, size, high, past)) (text-cleared fields) lost

-- the end of a chunk that failed
pub lost_end : {T : Type 0} (view : T → TargetView) (fields : List Waiting) (run : Run) (out : Writing T) (fault : WriteFault) (now : TargetView) → 0 < run.records → LosesRecords view out (most_bytes < out.size + length (data_packet (not run.is_begun) (streams_of fields))) ⊥ fault now → LosesRecords view out (most_bytes < out.size + length (run_packets fields run)) ⊥ fault now
lost_end view fields run out fault now more lost = subst (λ (bytes : List ℕ). LosesRecords view out (most_bytes < out.size + length bytes) ⊥ fault now) (sym (flushed-some fields run more)) lost

-- the steps, as calls leave them
pub taken-goes : {T : Type 0} (view : T → TargetView) (from k : ℕ) (fields : List Waiting) (run : Run) (out : Writing T) → IsGathered fields run → AllByRecursion (Has (from + k)) fields → 0 < k → IsBeingWritten view out → fits_packet (grown from k fields) ≡ true
    → (fields_now : List Waiting) (run_now : Run) (now : Writing T) → fields_now ≡ map (taken from k) fields → run_now ≡ record run { records = run.records + k } → now ≡ out → Goes view from k fields run out fields_now run_now now
taken-goes view from k fields run out gathered there some state fit fields_now run_now now first second third =
    subst (λ (ws : List Waiting). Goes view from k fields run out ws run_now now) (sym first)
    (subst (λ (r : Run). Goes view from k fields run out (map (taken from k) fields) r now) (sym second)
    (subst (λ (o : Writing _). Goes view from k fields run out (map (taken from k) fields) (record run { records = run.records + k }) o) (sym third)
    (goes_taken view from k fields run out gathered there some state fit)))

pub poured-goes : {T : Type 0} (view : T → TargetView) (from k : ℕ) (fields : List Waiting) (run : Run) (out : Writing T) → IsGathered fields run → AllByRecursion (Has (from + k)) fields → 0 < k → run.records ≡ 0 → k ≤ 8 → fits_packet (grown from k fields) ≡ false
    → (fields_now : List Waiting) (run_now : Run) (now : Writing T) → fields_now ≡ map cleared fields → run_now ≡ record run { is_begun = true } → Puts view out (packets_bytes (flagged (not run.is_begun) (poured (grown from k fields)))) now → Goes view from k fields run out fields_now run_now now
poured-goes view from k fields run out gathered there some none few over fields_now run_now now first second puts =
    subst (λ (ws : List Waiting). Goes view from k fields run out ws run_now now) (sym first)
    (subst (λ (r : Run). Goes view from k fields run out (map cleared fields) r now) (sym second)
    (goes_poured view from k fields run out gathered there some now none few over puts))

abbrev pub advanced : {T : Type 0} → (T → TargetView) → ℕ → ℕ → List Waiting → Run → Writing T → List Waiting → Run → Writing T → ℕ → Type 0
advanced view from most fields run out fields_now run_now now k = AreGroups k most × Goes view from k fields run out fields_now run_now now

abbrev pub not_advanced : {T : Type 0} → (T → TargetView) → ℕ → ℕ → List Waiting → Run → Writing T → Writing T → WriteFault → Type 0
not_advanced view from most fields run out now fault = (now.is_spent ≡ true) × LosesRecords view out (most_bytes < out.size + length (packets_bytes (flagged (not run.is_begun) (gone from (min 8 most) fields run).done))) (HasText fields) fault (view now.target)

-- what comes behind the run's packet
pub flushed-answer : {T : Type 0} (view : T → TargetView) (from most : ℕ) (fields : List Waiting) (run : Run) (out : Writing T) → IsGathered fields run → AllByRecursion (Has (from + most)) fields → 0 < most → 0 < run.records → fits_packet (grown from (min 8 most) fields) ≡ false
    → (fields_mid : List Waiting) (run_mid : Run) (mid : Writing T) → fields_mid ≡ map cleared fields → run_mid ≡ record run { records = 0; is_begun = true } → Puts view out (data_packet (not run.is_begun) (streams_of fields)) mid
    → (fields_now : List Waiting) (run_now : Run) (now : Writing T) (result : Result ℕ WriteFault) → MatchResult result (advanced view from most fields_mid run_mid mid fields_now run_now now) (not_advanced view from most fields_mid run_mid mid now)
    → MatchResult result (advanced view from most fields run out fields_now run_now now) (not_advanced view from most fields run out now)
flushed-answer view from most fields run out gathered there some more over fields_mid run_mid mid first second puts fields_now run_now now result answer =
    let cleared_run : Run = record run { records = 0; is_begun = true } in
    let one = subst (λ (ws : List Waiting). MatchResult result (advanced view from most ws run_mid mid fields_now run_now now) (not_advanced view from most ws run_mid mid now)) first answer in
    let two = subst (λ (r : Run). MatchResult result (advanced view from most (map cleared fields) r mid fields_now run_now now) (not_advanced view from most (map cleared fields) r mid now)) second one in
    answer-more result (advanced view from most (map cleared fields) cleared_run mid fields_now run_now now) (advanced view from most fields run out fields_now run_now now) (not_advanced view from most (map cleared fields) cleared_run mid now) (not_advanced view from most fields run out now) two
    (λ k h. (h.0, goes_flushed view from k fields run out gathered (there-some from most k fields h.0.1 there) h.0.0 most mid now fields_now run_now more h.0.1 (least-group k most h.0) over puts h.1))
    (λ fault h. (h.0, lost_behind view from most fields run out fault (view now.target) gathered there some more over mid puts h.1))

pub cleared_is : (fields : List Waiting) (run : Run) → IsGathered fields run → (fields_mid : List Waiting) (run_mid : Run) → fields_mid ≡ map cleared fields → run_mid ≡ record run { records = 0; is_begun = true } → IsGathered fields_mid run_mid
cleared_is fields run gathered fields_mid run_mid first second =
    subst (λ (ws : List Waiting). IsGathered ws run_mid) (sym first) (subst (λ (r : Run). IsGathered (map cleared fields) r) (sym second) (gathered_cleared fields run true gathered))

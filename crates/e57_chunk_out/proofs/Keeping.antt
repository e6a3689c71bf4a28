-- A turn of a writer keeps the section under way.
use Rattle.std.proofs.Common.{◌≡◌, ℕ, zero, suc, ◌+◌, ◌-◌, ◌*◌, ◌<◌, Bool, true, false, List, [], ◌∷◌, ◌++◌, length, replicate, Option, Some, None, refl, sym, ap, ◌∙◌, arith}
use Rattle.std.specs.Prelude.{not, ◌||◌}
use Rattle.std.specs.Option.{option_map}
use Rattle.std.proofs.lemmas.List.{append_assoc}
use Rattle.e57_base.specs.Target.{TargetView}
use Rattle.e57_layout.specs.Values.{ItemKind, Value}
use Rattle.e57_layout.specs.Packing.{first_records, later_records, join_columns, flushed, chunk_groups}
use Rattle.e57_layout.specs.Steps.{Step, steps}
use Rattle.e57_layout.specs.Written.{physical, Spelled, flagged, packets_bytes, entries_for}
use Rattle.e57_layout.specs.declared.packet.Entry.{Entry}
use Rattle.e57_layout.proofs.Laws.Written.{packets_bytes-append, length-packets_bytes-append}
use Rattle.e57_page_out.specs.Sealed.{filled, pages_for}
use Rattle.e57_page_out.specs.Sequences.{Puts}
use Rattle.e57_page_out.specs.Writing.{Writing}
use Rattle.e57_chunk_out.specs.Progress.{in_chunks, packets_so_far, open_packets, run_so_far, is_nil}
use Rattle.e57_chunk_out.specs.Standing.{IsUnderWay}
use Rattle.e57_chunk_out.proofs.Joins.{cut-joined_at, first-first, first-later}
use Rattle.e57_chunk_out.proofs.Turning.{MayAdd, step_on, packets-on, packets-full, run-on, run-full, open-on, open-full, entries-new, entries-same}

-- more records are the next of all
pub next-records : (e k : ℕ) (cs : List (List Value)) → join_columns (first_records e cs) (first_records k (later_records e cs)) ≡ first_records (e + k) cs
next-records e k cs =
    ap (λ (xs : List (List Value)). join_columns xs (first_records k (later_records e cs))) (sym (first-first e (e + k) cs (omega arith)))
    ∙ ap (join_columns (first_records e (first_records (e + k) cs))) (sym (first-later e k cs))
    ∙ cut-joined_at e (first_records (e + k) cs)

nil-append : (xs ys : List (List (List ℕ))) (begun : Bool) → is_nil xs ≡ not begun → is_nil (xs ++ ys) ≡ not (begun || not (is_nil ys))
nil-append [] [] true e = e
nil-append [] [] false e = refl
nil-append [] (y ∷ ys) true e = refl
nil-append [] (y ∷ ys) false e = refl
nil-append (x ∷ xs) ys true e = refl
nil-append (x ∷ xs) [] false e = e
nil-append (x ∷ xs) (y ∷ ys) false e = refl

module _ {T : Type 0} (view : T → TargetView) (before : Option (List ℕ)) (start : ℕ) (kinds : List ItemKind) (n e k : ℕ) (cs : List (List Value)) (old new : Writing T) (entries : List Entry) where
  abbrev more : List (List Value)
  more = first_records k (later_records e cs)

  abbrev data_place : ℕ
  data_place = 1020 * pages_for start + 32

  -- the bytes with some packets more
  put-more : (bytes : List ℕ) (ps qs : List Spelled) → old.told_bytes ≡ option_map (λ b. filled (pages_for start) b ++ (replicate 32 0 ++ packets_bytes ps)) before → Puts view old (packets_bytes qs) new
      → new.told_bytes ≡ option_map (λ b. filled (pages_for start) b ++ (replicate 32 0 ++ packets_bytes (ps ++ qs))) before
  put-more bytes ps qs is puts = puts.bytes ∙ ap (option_map (λ (xs : List ℕ). xs ++ packets_bytes qs)) is ∙ joined before
    where
      joined : (told : Option (List ℕ)) → option_map (λ (xs : List ℕ). xs ++ packets_bytes qs) (option_map (λ b. filled (pages_for start) b ++ (replicate 32 0 ++ packets_bytes ps)) told) ≡ option_map (λ b. filled (pages_for start) b ++ (replicate 32 0 ++ packets_bytes (ps ++ qs))) told
      joined None = refl
      joined (Some b) = ap Some (append_assoc (filled (pages_for start) b) (replicate 32 0 ++ packets_bytes ps) (packets_bytes qs)
          ∙ ap (λ (xs : List ℕ). filled (pages_for start) b ++ xs) (append_assoc (replicate 32 0) (packets_bytes ps) (packets_bytes qs) ∙ ap (λ (xs : List ℕ). replicate 32 0 ++ xs) (sym (packets_bytes-append ps qs))))

  module _ (run : Option (List (List ℕ))) (begun : Bool) (way : IsUnderWay before start kinds n e cs run begun entries old) (may : MayAdd kinds n e (first_records e cs) k more) (adds : 0 < k) where
    abbrev gone : Step
    gone = steps run (chunk_groups kinds (record { count = k; columns = more }))

    same-step : gone ≡ step_on kinds n e (first_records e cs) k more may
    same-step = ap (λ (r : Option (List (List ℕ))). steps r (chunk_groups kinds (record { count = k; columns = more }))) way.streams

    size-more : (ps qs : List Spelled) → old.size ≡ data_place + length (packets_bytes ps) → Puts view old (packets_bytes qs) new → new.size ≡ data_place + length (packets_bytes (ps ++ qs))
    size-more ps qs is puts = let sum = length-packets_bytes-append ps qs in let high = puts.size in omega arith

    -- the entries that the chunk has now
    pub is-index : (now : List Entry) → (e - in_chunks n e ≡ 0 → now ≡ entries ++ (record { first = e; place = physical old.size } ∷ [])) → (0 < e - in_chunks n e → now ≡ entries) → now ≡ entries_for data_place kinds n (e + k) (first_records (e + k) cs)
    is-index now fresh same = by_open (e - in_chunks n e) refl
      where
        by_open : (open_records : ℕ) → open_records ≡ e - in_chunks n e → now ≡ entries_for data_place kinds n (e + k) (first_records (e + k) cs)
        by_open zero is =
            fresh (sym is)
            ∙ ap (λ (es : List Entry). es ++ (record { first = e; place = physical old.size } ∷ [])) way.index
            ∙ ap (λ (p : ℕ). entries_for data_place kinds n e (first_records e cs) ++ (record { first = e; place = physical p } ∷ [])) way.size
            ∙ sym (entries-new kinds n e (first_records e cs) k more may adds data_place (sym is))
            ∙ ap (entries_for data_place kinds n (e + k)) (next-records e k cs)
        by_open (suc open_records) is =
            same (omega arith) ∙ way.index ∙ sym (entries-same kinds n e (first_records e cs) k more may adds data_place (omega arith)) ∙ ap (entries_for data_place kinds n (e + k)) (next-records e k cs)

    -- where the chunk isn't full
    pub keeps-open : (now : List Entry) (after : Option (List (List ℕ))) (is_begun : Bool) → e - in_chunks n e + k < n → Puts view old (packets_bytes (flagged (not begun) gone.done)) new → after ≡ gone.run → is_begun ≡ (begun || not (is_nil gone.done))
        → now ≡ entries_for data_place kinds n (e + k) (first_records (e + k) cs) → IsUnderWay before start kinds n (e + k) cs after is_begun now new
    keeps-open now after is_begun h puts runs begins index =
        let so_far = packets_so_far kinds n e (first_records e cs) in
        let next = next-records e k cs in
        let flag : not begun ≡ is_nil (open_packets kinds n e (first_records e cs)) = sym way.begun in
        let packets : packets_so_far kinds n (e + k) (first_records (e + k) cs) ≡ so_far ++ flagged (not begun) gone.done =
        ap (packets_so_far kinds n (e + k)) (sym next) ∙ packets-on kinds n e (first_records e cs) k more may h
        ∙ ap (λ b. so_far ++ flagged b (step_on kinds n e (first_records e cs) k more may).done) (sym flag) ∙ ap (λ (s : Step). so_far ++ flagged (not begun) s.done) (sym same-step) in
        record {
          streams = runs ∙ ap (λ (s : Step). s.run) same-step ∙ sym (run-on kinds n e (first_records e cs) k more may h) ∙ ap (run_so_far kinds n (e + k)) next;
          begun = ap (λ (xs : List (List Value)). is_nil (open_packets kinds n (e + k) xs)) (sym next)
              ∙ ap (λ (xs : List (List (List ℕ))). is_nil xs) (open-on kinds n e (first_records e cs) k more may h ∙ ap (λ (s : Step). open_packets kinds n e (first_records e cs) ++ s.done) (sym same-step))
              ∙ nil-append (open_packets kinds n e (first_records e cs)) gone.done begun way.begun
              ∙ ap not (sym begins);
          held = puts.held ∙ way.held;
          size = size-more so_far (flagged (not begun) gone.done) way.size puts ∙ ap (λ (ps : List Spelled). data_place + length (packets_bytes ps)) (sym packets);
          bytes = put-more [] so_far (flagged (not begun) gone.done) way.bytes puts ∙ ap (λ (ps : List Spelled). option_map (λ b. filled (pages_for start) b ++ (replicate 32 0 ++ packets_bytes ps)) before) (sym packets);
          index = index;
        }

    -- where it is, its run is put too
    pub keeps-full : (now : List Entry) → e - in_chunks n e + k ≡ n → Puts view old (packets_bytes (flagged (not begun) (gone.done ++ flushed gone.run))) new
        → now ≡ entries_for data_place kinds n (e + k) (first_records (e + k) cs) → IsUnderWay before start kinds n (e + k) cs None false now new
    keeps-full now h puts index =
        let so_far = packets_so_far kinds n e (first_records e cs) in
        let next = next-records e k cs in
        let flag : not begun ≡ is_nil (open_packets kinds n e (first_records e cs)) = sym way.begun in
        let packets : packets_so_far kinds n (e + k) (first_records (e + k) cs) ≡ so_far ++ flagged (not begun) (gone.done ++ flushed gone.run) =
        ap (packets_so_far kinds n (e + k)) (sym next) ∙ packets-full kinds n e (first_records e cs) k more may h
        ∙ ap (λ b. so_far ++ flagged b ((step_on kinds n e (first_records e cs) k more may).done ++ flushed (step_on kinds n e (first_records e cs) k more may).run)) (sym flag)
        ∙ ap (λ (s : Step). so_far ++ flagged (not begun) (s.done ++ flushed s.run)) (sym same-step) in
        record {
          streams = sym (run-full kinds n e (first_records e cs) k more may h) ∙ ap (run_so_far kinds n (e + k)) next;
          begun = ap (λ (xs : List (List Value)). is_nil (open_packets kinds n (e + k) xs)) (sym next) ∙ ap (λ (xs : List (List (List ℕ))). is_nil xs) (open-full kinds n e (first_records e cs) k more may h);
          held = puts.held ∙ way.held;
          size = size-more so_far (flagged (not begun) (gone.done ++ flushed gone.run)) way.size puts ∙ ap (λ (ps : List Spelled). data_place + length (packets_bytes ps)) (sym packets);
          bytes = put-more [] so_far (flagged (not begun) (gone.done ++ flushed gone.run)) way.bytes puts ∙ ap (λ (ps : List Spelled). option_map (λ b. filled (pages_for start) b ++ (replicate 32 0 ++ packets_bytes ps)) before) (sym packets);
          index = index;
        }

-- Laws of a writer's progress: what more records, within the chunk that is under way, add to the packets so far.
use Rattle.std.proofs.Common.{◌≡◌, ℕ, zero, suc, ◌+◌, ◌-◌, ◌*◌, ◌/◌, ◌<◌, ◌≤◌, min, true, List, [], ◌∷◌, ◌++◌, length, None, refl, sym, ap, subst, ◌∙◌, arith, add-zero, ◌%◌}
use Rattle.std.proofs.lemmas.List.{append_assoc, append-nil}
use Rattle.std.proofs.lemmas.List.Concat.{flat_map-append}
use Rattle.std.proofs.lemmas.Nat.{div-mul-add}
use Rattle.std.proofs.Math.Nat.{div-add-mod, mod-lt}
use Rattle.e57_layout.specs.Values.{ItemKind, Value}
use Rattle.e57_layout.specs.Items.{AreColumns}
use Rattle.e57_layout.specs.Packing.{first_records, later_records, join_columns, Block, blocks, packets_of, flushed, chunk_groups, chunk_packets}
use Rattle.e57_layout.specs.Steps.{Step, steps}
use Rattle.e57_layout.specs.Written.{physical, Spelled, packets_bytes, flagged, chunk_spelled, chunks_spelled, chunk_entries, data_spelled, entries_for}
use Rattle.e57_layout.specs.declared.packet.Entry.{Entry}
use Rattle.e57_layout.proofs.Laws.Blocks.{blocks-none, blocks-step, blocks-whole, first_block, later_records-columns, join_columns-columns, block_records, blocks-records}
use Rattle.e57_layout.proofs.Laws.Steps.{packets_of-all}
use Rattle.e57_layout.proofs.Laws.Written.{length-packets_bytes-append}
use Rattle.e57_chunk_out.specs.Progress.{in_chunks, open_groups, closed_packets, open_packets, packets_so_far, run_so_far, is_nil}
use Rattle.e57_chunk_out.proofs.Joins.{later-join, first-join, first-all, groups-none, groups-join}
use Rattle.e57_chunk_out.proofs.Stepping.{steps-append, flagged-append, steps-none}

-- ---- chunks by their number

chunks_of : (q n c : ℕ) → c < n → in_chunks n (n * q + c) ≡ n * q
unfolding in_chunks
chunks_of q n c h = ap (λ k. n * k) (ap (λ a. (a + c) / n) (turned n q) ∙ div-mul-add q n c h)
  where
    turned : (n q : ℕ) → n * q ≡ q * n
    turned n q = grind arith

-- so many records, by whole chunks and the rest
pub record InChunks (n e : ℕ) : Type 0 where
  pub q : ℕ
  pub c : ℕ
  pub below : c < n
  pub whole : in_chunks n e ≡ n * q
  pub sum : e ≡ n * q + c

pub in_chunks-parts : (n e : ℕ) → 0 < n → InChunks n e
in_chunks-parts n e some =
    let below : e % n < n = mod-lt e some in
    let sum : n * (e / n) + e % n ≡ e = div-add-mod e n in
    record { q = e / n; c = e % n; below = below; whole = ap (in_chunks n) (sym sum) ∙ chunks_of (e / n) n (e % n) below; sum = sym sum }

pub in_chunks-le : (n e : ℕ) → 0 < n → in_chunks n e ≤ e
in_chunks-le n e some = let parts = in_chunks-parts n e some in omega (arith, parts.whole, parts.sum)

-- the rest is less than a chunk
pub in_chunks-rest : (n e : ℕ) → 0 < n → e - in_chunks n e < n
in_chunks-rest n e some = let parts = in_chunks-parts n e some in omega (arith, parts.whole, parts.sum, parts.below)

-- more records of the chunk, which they don't fill
pub in_chunks-within : (n e k : ℕ) → 0 < n → e - in_chunks n e + k < n → in_chunks n (e + k) ≡ in_chunks n e
in_chunks-within n e k some h =
    let parts = in_chunks-parts n e some in
    let sum : e + k ≡ n * parts.q + (parts.c + k) = omega (arith, parts.sum) in
    ap (in_chunks n) sum ∙ chunks_of parts.q n (parts.c + k) (omega (arith, parts.whole, parts.sum)) ∙ sym parts.whole

-- or which they fill
pub in_chunks-full : (n e k : ℕ) → 0 < n → e - in_chunks n e + k ≡ n → in_chunks n (e + k) ≡ e + k
in_chunks-full n e k some h =
    let parts = in_chunks-parts n e some in
    let next : n * (parts.q + 1) ≡ n * parts.q + n = grown n parts.q in
    let sum : e + k ≡ n * (parts.q + 1) + 0 = omega (arith, parts.whole, parts.sum) in
    ap (in_chunks n) sum ∙ chunks_of (parts.q + 1) n 0 some ∙ omega (arith)
  where
    grown : (n q : ℕ) → n * (q + 1) ≡ n * q + n
    grown n q = grind arith

-- ---- data

append-nothing : (ps : List Spelled) → ps ++ flagged true [] ≡ ps
unfolding flagged
append-nothing ps = append-nil ps

chunks-append : (kinds : List ItemKind) (xs ys : List Block) → chunks_spelled kinds (xs ++ ys) ≡ chunks_spelled kinds xs ++ chunks_spelled kinds ys
unfolding chunks_spelled
chunks-append kinds xs ys = flat_map-append (chunk_spelled kinds) xs ys

no-packets : ◌≡◌ {A = List Spelled} [] (flagged true (packets_of None []))
unfolding flagged packets_of
no-packets = refl

-- one chunk
last-chunk : (kinds : List ItemKind) (n c : ℕ) (columns : List (List Value)) → 0 < n → c ≤ n → AreColumns kinds c columns → chunks_spelled kinds (blocks n c columns) ≡ flagged true (packets_of None (chunk_groups kinds (record { count = c; columns = columns })))
unfolding chunks_spelled chunk_spelled chunk_packets
last-chunk kinds n zero columns some h are = rw (blocks-none n columns, groups-none kinds columns) no-packets
last-chunk kinds n (suc c) columns some h are =
    let least : min n (suc c) ≡ suc c = omega arith in
    let rest : suc c - n ≡ 0 = omega arith in
    let all : first_records n columns ≡ columns = first-all kinds (suc c) n columns are h in
    rw (blocks-step n (suc c) columns some (omega arith), least, rest, all, blocks-none n (later_records n columns)) (append-nil (flagged true (packets_of None (chunk_groups kinds (record { count = suc c; columns = columns })))))

-- whole chunks, and one more
data-parts : (kinds : List ItemKind) (n q c : ℕ) (columns : List (List Value)) → 0 < n → c ≤ n → AreColumns kinds (n * q + c) columns
    → data_spelled kinds n (n * q + c) columns ≡ data_spelled kinds n (n * q) (first_records (n * q) columns) ++ flagged true (packets_of None (chunk_groups kinds (record { count = c; columns = later_records (n * q) columns })))
unfolding data_spelled
data-parts kinds n q c columns some h are =
    let count : n * q + c - n * q ≡ c = omega arith in
    ap (chunks_spelled kinds) (blocks-whole q n c columns some)
    ∙ chunks-append kinds (blocks n (n * q) (first_records (n * q) columns)) (blocks n c (later_records (n * q) columns))
    ∙ ap (λ (later : List Spelled). chunks_spelled kinds (blocks n (n * q) (first_records (n * q) columns)) ++ later)
    (last-chunk kinds n c (later_records (n * q) columns) some h (subst (λ m. AreColumns kinds m (later_records (n * q) columns)) count (later_records-columns kinds (n * q) (n * q + c) columns are)))

-- the packets of all records are those of the whole chunks and of the chunk under way
pub data-open : (kinds : List ItemKind) (n c : ℕ) (columns : List (List Value)) → 0 < n → AreColumns kinds c columns → data_spelled kinds n c columns ≡ closed_packets kinds n c columns ++ flagged true (packets_of None (open_groups kinds n c columns))
unfolding closed_packets open_groups
data-open kinds n c columns some are =
    let parts = in_chunks-parts n c some in
    let rest : c - in_chunks n c ≡ parts.c = omega (arith, parts.whole, parts.sum) in
    ap (λ m. data_spelled kinds n m columns) parts.sum
    ∙ data-parts kinds n parts.q parts.c columns some (omega (arith, parts.below)) (subst (λ m. AreColumns kinds m columns) parts.sum are)
    ∙ ap (λ m. data_spelled kinds n m (first_records m columns) ++ flagged true (packets_of None (chunk_groups kinds (record { count = parts.c; columns = later_records m columns })))) (sym parts.whole)
    ∙ ap (λ m. data_spelled kinds n (in_chunks n c) (first_records (in_chunks n c) columns) ++ flagged true (packets_of None (chunk_groups kinds (record { count = m; columns = later_records (in_chunks n c) columns })))) (sym rest)

so-far-closed : (kinds : List ItemKind) (n e : ℕ) (cs : List (List Value)) → AreColumns kinds e cs → in_chunks n e ≡ e → open_packets kinds n e cs ≡ [] → packets_so_far kinds n e cs ≡ data_spelled kinds n e cs
unfolding packets_so_far closed_packets
so-far-closed kinds n e cs are full none =
    ap (λ (ps : List (List (List ℕ))). data_spelled kinds n (in_chunks n e) (first_records (in_chunks n e) cs) ++ flagged true ps) none
    ∙ append-nothing (data_spelled kinds n (in_chunks n e) (first_records (in_chunks n e) cs))
    ∙ ap (λ m. data_spelled kinds n m (first_records m cs)) full
    ∙ ap (data_spelled kinds n e) (first-all kinds e e cs are (omega arith))

-- ---- more records

-- the first e records are whole groups, and k more belong to the chunk under way
pub record MayAdd (kinds : List ItemKind) (n e : ℕ) (cs : List (List Value)) (k : ℕ) (more : List (List Value)) : Type 0 where
  pub some : 0 < n
  pub groups : n % 8 ≡ 0
  pub whole : e % 8 ≡ 0
  pub columns : AreColumns kinds e cs
  pub added : AreColumns kinds k more
  pub within : e - in_chunks n e + k ≤ n

module _ (kinds : List ItemKind) (n e : ℕ) (cs : List (List Value)) (k : ℕ) (more : List (List Value)) (may : MayAdd kinds n e cs k more) where
  abbrev pub new_groups : List (List (List ℕ))
  new_groups = chunk_groups kinds (record { count = k; columns = more })

  -- the groups of the chunk with the new ones
  groups-more : chunk_groups kinds (record { count = e - in_chunks n e + k; columns = later_records (in_chunks n e) (join_columns cs more) }) ≡ open_groups kinds n e cs ++ new_groups
  unfolding open_groups
  groups-more =
      let parts = in_chunks-parts n e may.some in
      let below = in_chunks-le n e may.some in
      let m = (e - in_chunks n e) / 8 in
      let eight : e - in_chunks n e ≡ 8 * m = rest8 n e parts.q parts.c may.groups may.whole parts.whole parts.sum in
      ap (λ columns. chunk_groups kinds (record { count = e - in_chunks n e + k; columns = columns })) (later-join kinds e k (in_chunks n e) cs more may.columns may.added below)
      ∙ ap (λ r. chunk_groups kinds (record { count = r + k; columns = join_columns (later_records (in_chunks n e) cs) more })) eight
      ∙ groups-join kinds m k (later_records (in_chunks n e) cs) more (subst (λ r. AreColumns kinds r (later_records (in_chunks n e) cs)) eight (later_records-columns kinds (in_chunks n e) e cs may.columns)) may.added
      ∙ ap (λ r. chunk_groups kinds (record { count = r; columns = later_records (in_chunks n e) cs }) ++ new_groups) (sym eight)
    where
      rest8 : (n e q c : ℕ) → n % 8 ≡ 0 → e % 8 ≡ 0 → in_chunks n e ≡ n * q → e ≡ n * q + c → e - in_chunks n e ≡ 8 * ((e - in_chunks n e) / 8)
      rest8 n e q c h g w s =
          let n8 : 8 * (n / 8) + n % 8 ≡ n = div-add-mod n 8 in
          let product : n * q ≡ 8 * (n / 8 * q) = ap (λ a. a * q) (sym n8 ∙ ap (λ r. 8 * (n / 8) + r) h) ∙ regroup (n / 8) q in
          omega (arith, w, s, h, g)
        where
          regroup : (a q : ℕ) → (8 * a + 0) * q ≡ 8 * (a * q)
          regroup a q = grind arith

  -- the packets and the run of the chunk with the new groups
  abbrev pub step_on : Step
  step_on = steps (run_so_far kinds n e cs) new_groups

  steps-more : steps None (open_groups kinds n e cs ++ new_groups) ≡ record { done = open_packets kinds n e cs ++ step_on.done; run = step_on.run }
  unfolding open_packets run_so_far
  steps-more = steps-append None (open_groups kinds n e cs) new_groups

  -- where they don't fill the chunk, its groups are the ones so far and the new ones
  pub open_groups-more : e - in_chunks n e + k < n → open_groups kinds n (e + k) (join_columns cs more) ≡ open_groups kinds n e cs ++ new_groups
  unfolding open_groups
  open_groups-more h =
      let same = in_chunks-within n e k may.some h in
      let below = in_chunks-le n e may.some in
      let count : e + k - in_chunks n e ≡ e - in_chunks n e + k = omega arith in
      ap (λ m. chunk_groups kinds (record { count = e + k - m; columns = later_records m (join_columns cs more) })) same
      ∙ ap (λ m. chunk_groups kinds (record { count = m; columns = later_records (in_chunks n e) (join_columns cs more) })) count
      ∙ groups-more

  closed-same : e - in_chunks n e + k < n → closed_packets kinds n (e + k) (join_columns cs more) ≡ closed_packets kinds n e cs
  unfolding closed_packets
  closed-same h =
      let same = in_chunks-within n e k may.some h in
      ap (λ m. data_spelled kinds n m (first_records m (join_columns cs more))) same
      ∙ ap (data_spelled kinds n (in_chunks n e)) (first-join kinds e k (in_chunks n e) cs more may.columns may.added (in_chunks-le n e may.some))

  -- packets behind those so far
  packets-behind : (ps : List (List (List ℕ))) → closed_packets kinds n e cs ++ flagged true (open_packets kinds n e cs ++ ps) ≡ packets_so_far kinds n e cs ++ flagged (is_nil (open_packets kinds n e cs)) ps
  unfolding packets_so_far
  packets-behind ps =
      ap (λ (later : List Spelled). closed_packets kinds n e cs ++ later) (flagged-append true (open_packets kinds n e cs) ps)
      ∙ sym (append_assoc (closed_packets kinds n e cs) (flagged true (open_packets kinds n e cs)) (flagged (is_nil (open_packets kinds n e cs)) ps))

  pub open-on : e - in_chunks n e + k < n → open_packets kinds n (e + k) (join_columns cs more) ≡ open_packets kinds n e cs ++ step_on.done
  unfolding open_packets
  open-on h = ap (λ (gs : List (List (List ℕ))). (steps None gs).done) (open_groups-more h) ∙ ap (λ (s : Step). s.done) steps-more

  pub run-on : e - in_chunks n e + k < n → run_so_far kinds n (e + k) (join_columns cs more) ≡ step_on.run
  unfolding run_so_far
  run-on h = ap (λ (gs : List (List (List ℕ))). (steps None gs).run) (open_groups-more h) ∙ ap (λ (s : Step). s.run) steps-more

  pub packets-on : e - in_chunks n e + k < n → packets_so_far kinds n (e + k) (join_columns cs more) ≡ packets_so_far kinds n e cs ++ flagged (is_nil (open_packets kinds n e cs)) step_on.done
  unfolding packets_so_far
  packets-on h =
      ap (λ (ps : List Spelled). ps ++ flagged true (open_packets kinds n (e + k) (join_columns cs more))) (closed-same h)
      ∙ ap (λ (ps : List (List (List ℕ))). closed_packets kinds n e cs ++ flagged true ps) (open-on h)
      ∙ packets-behind step_on.done

  -- where they fill it, it is closed
  none-open : e - in_chunks n e + k ≡ n → open_groups kinds n (e + k) (join_columns cs more) ≡ []
  unfolding open_groups
  none-open h =
      let full = in_chunks-full n e k may.some h in
      let none : e + k - in_chunks n (e + k) ≡ 0 = omega (arith, full) in
      ap (λ m. chunk_groups kinds (record { count = m; columns = later_records (in_chunks n (e + k)) (join_columns cs more) })) none ∙ groups-none kinds (later_records (in_chunks n (e + k)) (join_columns cs more))

  pub open-full : e - in_chunks n e + k ≡ n → open_packets kinds n (e + k) (join_columns cs more) ≡ []
  unfolding open_packets
  open-full h = ap (λ (gs : List (List (List ℕ))). (steps None gs).done) (none-open h) ∙ ap (λ (s : Step). s.done) (steps-none None)

  pub run-full : e - in_chunks n e + k ≡ n → run_so_far kinds n (e + k) (join_columns cs more) ≡ None
  unfolding run_so_far
  run-full h = ap (λ (gs : List (List (List ℕ))). (steps None gs).run) (none-open h) ∙ ap (λ (s : Step). s.run) (steps-none None)

  pub data-closed : e - in_chunks n e + k ≡ n → data_spelled kinds n (e + k) (join_columns cs more) ≡ closed_packets kinds n e cs ++ flagged true (packets_of None (open_groups kinds n e cs ++ new_groups))
  unfolding closed_packets
  data-closed h =
      let parts = in_chunks-parts n e may.some in
      let all : AreColumns kinds (e + k) (join_columns cs more) = join_columns-columns kinds e k cs more may.columns may.added in
      let sum : e + k ≡ n * parts.q + (e - in_chunks n e + k) = omega (arith, parts.whole, parts.sum) in
      ap (λ m. data_spelled kinds n m (join_columns cs more)) sum
      ∙ data-parts kinds n parts.q (e - in_chunks n e + k) (join_columns cs more) may.some may.within (subst (λ m. AreColumns kinds m (join_columns cs more)) sum all)
      ∙ ap (λ m. data_spelled kinds n m (first_records m (join_columns cs more)) ++ flagged true (packets_of None (chunk_groups kinds (record { count = e - in_chunks n e + k; columns = later_records m (join_columns cs more) })))) (sym parts.whole)
      ∙ ap (λ (columns : List (List Value)). data_spelled kinds n (in_chunks n e) columns ++ flagged true (packets_of None (chunk_groups kinds (record { count = e - in_chunks n e + k; columns = later_records (in_chunks n e) (join_columns cs more) })))) (first-join kinds e k (in_chunks n e) cs more may.columns may.added (in_chunks-le n e may.some))
      ∙ ap (λ (gs : List (List (List ℕ))). data_spelled kinds n (in_chunks n e) (first_records (in_chunks n e) cs) ++ flagged true (packets_of None gs)) groups-more

  pub packets-full : e - in_chunks n e + k ≡ n → packets_so_far kinds n (e + k) (join_columns cs more) ≡ packets_so_far kinds n e cs ++ flagged (is_nil (open_packets kinds n e cs)) (step_on.done ++ flushed step_on.run)
  packets-full h =
      let all : AreColumns kinds (e + k) (join_columns cs more) = join_columns-columns kinds e k cs more may.columns may.added in
      closed-full all
      ∙ data-closed h
      ∙ ap (λ (ps : List (List (List ℕ))). closed_packets kinds n e cs ++ flagged true ps)
      (packets_of-all None (open_groups kinds n e cs ++ new_groups) ∙ ap (λ (s : Step). s.done ++ flushed s.run) steps-more ∙ append_assoc (open_packets kinds n e cs) step_on.done (flushed step_on.run))
      ∙ packets-behind (step_on.done ++ flushed step_on.run)
    where
      closed-full : AreColumns kinds (e + k) (join_columns cs more) → packets_so_far kinds n (e + k) (join_columns cs more) ≡ data_spelled kinds n (e + k) (join_columns cs more)
      closed-full all = so-far-closed kinds n (e + k) (join_columns cs more) all (in_chunks-full n e k may.some h) (open-full h)

-- ---- entries

entries-append : (kinds : List ItemKind) (q first : ℕ) (xs ys : List Block) → chunk_entries kinds q first (xs ++ ys) ≡ chunk_entries kinds q first xs ++ chunk_entries kinds (q + length (packets_bytes (chunks_spelled kinds xs))) (first + block_records xs) ys
unfolding chunk_entries chunks_spelled block_records
entries-append kinds q first [] ys = rw (add-zero q, add-zero first) refl
entries-append kinds q first (x ∷ xs) ys =
    let size : length (packets_bytes (chunk_spelled kinds x ++ chunks_spelled kinds xs)) ≡ length (packets_bytes (chunk_spelled kinds x)) + length (packets_bytes (chunks_spelled kinds xs)) = length-packets_bytes-append (chunk_spelled kinds x) (chunks_spelled kinds xs) in
    ap (λ (es : List Entry). record { first = first; place = physical q } ∷ es) (entries-append kinds (q + length (packets_bytes (chunk_spelled kinds x))) (first + x.count) xs ys
    ∙ ap (λ (place : ℕ). chunk_entries kinds (q + length (packets_bytes (chunk_spelled kinds x))) (first + x.count) xs ++ chunk_entries kinds place (first + x.count + block_records xs) ys) (omega arith)
    ∙ ap (λ (r : ℕ). chunk_entries kinds (q + length (packets_bytes (chunk_spelled kinds x))) (first + x.count) xs ++ chunk_entries kinds (q + length (packets_bytes (chunk_spelled kinds x ++ chunks_spelled kinds xs))) r ys) (omega arith))

one-entry : (kinds : List ItemKind) (place first : ℕ) (block : Block) → chunk_entries kinds place first (block ∷ []) ≡ record { first = first; place = physical place } ∷ []
unfolding chunk_entries
one-entry kinds place first block = refl

open-none : (kinds : List ItemKind) (n e : ℕ) (cs : List (List Value)) → e - in_chunks n e ≡ 0 → open_groups kinds n e cs ≡ []
unfolding open_groups
open-none kinds n e cs none = ap (λ m. chunk_groups kinds (record { count = m; columns = later_records (in_chunks n e) cs })) none ∙ groups-none kinds (later_records (in_chunks n e) cs)

-- entries of whole chunks, and of one more
entries-parts : (kinds : List ItemKind) (p n q c : ℕ) (columns : List (List Value)) → 0 < n → 0 < c → c ≤ n
    → entries_for p kinds n (n * q + c) columns ≡ entries_for p kinds n (n * q) (first_records (n * q) columns) ++ (record { first = n * q; place = physical (p + length (packets_bytes (data_spelled kinds n (n * q) (first_records (n * q) columns)))) } ∷ [])
unfolding data_spelled
entries-parts kinds p n q c columns some more few =
    let rest : c - n ≡ 0 = omega arith in
    ap (chunk_entries kinds p 0) (blocks-whole q n c columns some)
    ∙ entries-append kinds p 0 (blocks n (n * q) (first_records (n * q) columns)) (blocks n c (later_records (n * q) columns))
    ∙ ap (λ (ys : List Block). chunk_entries kinds p 0 (blocks n (n * q) (first_records (n * q) columns)) ++ chunk_entries kinds (p + length (packets_bytes (chunks_spelled kinds (blocks n (n * q) (first_records (n * q) columns))))) (0 + block_records (blocks n (n * q) (first_records (n * q) columns))) ys)
    (blocks-step n c (later_records (n * q) columns) some more ∙ ap (λ m. first_block n c (later_records (n * q) columns) ∷ blocks n m (later_records n (later_records (n * q) columns))) rest ∙ ap (λ (later : List Block). first_block n c (later_records (n * q) columns) ∷ later) (blocks-none n (later_records n (later_records (n * q) columns))))
    ∙ ap (λ (es : List Entry). chunk_entries kinds p 0 (blocks n (n * q) (first_records (n * q) columns)) ++ es) (one kinds (p + length (packets_bytes (chunks_spelled kinds (blocks n (n * q) (first_records (n * q) columns))))) (0 + block_records (blocks n (n * q) (first_records (n * q) columns))) (n * q) (first_block n c (later_records (n * q) columns)) (ap (λ r. 0 + r) (blocks-records n (n * q) (first_records (n * q) columns) some) ∙ omega arith))
  where
    one : (kinds : List ItemKind) (place first is : ℕ) (block : Block) → first ≡ is → chunk_entries kinds place first (block ∷ []) ≡ record { first = is; place = physical place } ∷ []
    one kinds place first is block e = one-entry kinds place first block ∙ ap (λ r. record { first = r; place = physical place } ∷ []) e

module _ (kinds : List ItemKind) (n e : ℕ) (cs : List (List Value)) (k : ℕ) (more : List (List Value)) (may : MayAdd kinds n e cs k more) (adds : 0 < k) (p : ℕ) where
  with-last : (q : ℕ) → in_chunks n e ≡ n * q → entries_for p kinds n (e + k) (join_columns cs more) ≡ entries_for p kinds n (in_chunks n e) (first_records (in_chunks n e) cs) ++ (record { first = in_chunks n e; place = physical (p + length (packets_bytes (data_spelled kinds n (in_chunks n e) (first_records (in_chunks n e) cs)))) } ∷ [])
  with-last q whole =
      let below = in_chunks-le n e may.some in
      let sum : e + k ≡ n * q + (e - in_chunks n e + k) = omega (arith, whole) in
      ap (λ m. entries_for p kinds n m (join_columns cs more)) sum
      ∙ entries-parts kinds p n q (e - in_chunks n e + k) (join_columns cs more) may.some (omega arith) may.within
      ∙ ap (λ m. entries_for p kinds n m (first_records m (join_columns cs more)) ++ (record { first = m; place = physical (p + length (packets_bytes (data_spelled kinds n m (first_records m (join_columns cs more))))) } ∷ [])) (sym whole)
      ∙ ap (λ (columns : List (List Value)). entries_for p kinds n (in_chunks n e) columns ++ (record { first = in_chunks n e; place = physical (p + length (packets_bytes (data_spelled kinds n (in_chunks n e) columns))) } ∷ [])) (first-join kinds e k (in_chunks n e) cs more may.columns may.added below)

  -- the first records of a chunk give it an entry
  pub entries-new : e - in_chunks n e ≡ 0 → entries_for p kinds n (e + k) (join_columns cs more) ≡ entries_for p kinds n e cs ++ (record { first = e; place = physical (p + length (packets_bytes (packets_so_far kinds n e cs))) } ∷ [])
  unfolding open_packets
  entries-new none =
      let parts = in_chunks-parts n e may.some in
      let below = in_chunks-le n e may.some in
      let full : in_chunks n e ≡ e = omega arith in
      let nothing : open_packets kinds n e cs ≡ [] = ap (λ (gs : List (List (List ℕ))). (steps None gs).done) (no-groups none) ∙ ap (λ (s : Step). s.done) (steps-none None) in
      with-last parts.q parts.whole
      ∙ ap (λ m. entries_for p kinds n m (first_records m cs) ++ (record { first = m; place = physical (p + length (packets_bytes (data_spelled kinds n m (first_records m cs)))) } ∷ [])) full
      ∙ ap (λ (columns : List (List Value)). entries_for p kinds n e columns ++ (record { first = e; place = physical (p + length (packets_bytes (data_spelled kinds n e columns))) } ∷ [])) (first-all kinds e e cs may.columns (omega arith))
      ∙ ap (λ (ps : List Spelled). entries_for p kinds n e cs ++ (record { first = e; place = physical (p + length (packets_bytes ps)) } ∷ [])) (sym (so-far-closed kinds n e cs may.columns full nothing))
    where
      no-groups : e - in_chunks n e ≡ 0 → open_groups kinds n e cs ≡ []
      no-groups none = open-none kinds n e cs none

  -- and more of them change nothing
  pub entries-same : 0 < e - in_chunks n e → entries_for p kinds n (e + k) (join_columns cs more) ≡ entries_for p kinds n e cs
  entries-same some =
      let parts = in_chunks-parts n e may.some in
      let below = in_chunks-le n e may.some in
      let sum : e ≡ n * parts.q + (e - in_chunks n e) = omega (arith, parts.whole, parts.sum) in
      let rest = in_chunks-rest n e may.some in
      with-last parts.q parts.whole
      ∙ ap (λ m. entries_for p kinds n m (first_records m cs) ++ (record { first = m; place = physical (p + length (packets_bytes (data_spelled kinds n m (first_records m cs)))) } ∷ [])) parts.whole
      ∙ sym (entries-parts kinds p n parts.q (e - in_chunks n e) cs may.some some (omega arith))
      ∙ ap (λ m. entries_for p kinds n m cs) (sym sum)

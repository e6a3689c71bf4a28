-- Laws of the index: that of a written one has no fault, and leads to the entries that it was given.
use Rattle.std.specs.Prelude.{◌≡◌, ℕ, zero, suc, ◌+◌, ◌*◌, ◌/◌, ◌%◌, ◌^◌, ◌<◌, ◌≤◌, ◌==◌, nat_lt, nat_le, ◌&&◌, true, false, List, [], ◌∷◌, ◌++◌, length, Option, Some, None}
use Rattle.std.specs.List.{AllByRecursion, flat_map}
use Rattle.std.specs.Option.{option_or}
use Rattle.std.proofs.Common.{refl, sym, ap, subst, ◌∙◌, arith, ⊎_elim, length-append, append-nil, add-one, pow-suc}
use Rattle.std.proofs.lemmas.Bool.{lt-ltb, le-ltb, le-leb, leb-true, ltb-true, eq-eqb, ne_eqb, and_parts, cases_lt}
use Rattle.std.proofs.lemmas.List.Concat.{flat_map-append}
use Rattle.e57_base.specs.declared.fault.Fault.{Fault}
use Rattle.e57_page.specs.Place.{place}
use Rattle.e57_page.specs.File.{logical, span_fault, logical_size}
use Rattle.e57_layout.specs.Standing.{Stands}
use Rattle.e57_layout.specs.IndexPackets.{index_packet, index_size, level_at}
use Rattle.e57_layout.specs.Written.{physical, packet_bytes, packets_bytes, first_record, entry_runs, level_spelled, level_size, upper_entries, index_spelled, root_place}
use Rattle.e57_layout.proofs.Laws.Standing.{Stands-front, Stands-behind}
use Rattle.e57_layout.proofs.Laws.Layouts.{IsEntry, index_packet-read, length-index_packet}
use Rattle.e57_layout.proofs.Laws.Index.{IsEntryRun, entry_runs-are, entry_runs-all, entry_runs-joined, entry_runs-count, length-upper_entries, index_spelled-last, index_spelled-more, root_place-last, root_place-more}
use Rattle.e57_layout.specs.declared.packet.Entry.{Entry}
use Rattle.e57_layout.specs.declared.section.Section.{Section}
use Rattle.e57_cloud.specs.Index.{known_place, entries_of, is_misshapen_index, rises, begins_and_rises, index_start_fault, index_shape_fault, index_packet_fault, next_first, each_fault, entry_fault, entries_below, root_level, root_fault, index_fault, entries, Rises}
use Rattle.e57_cloud.proofs.Laws.Spans.{span-right}
use Rattle.e57_cloud.specs.Written.{AreRight}
use Rattle.e57_cloud.proofs.Laws.Walks.{IsIndexPacket}
use Rattle.e57_base.proofs.Options.{option_or_parts}

-- ---- places

-- the place of the physical offset of a place
pub place-physical : (q : ℕ) → place (physical q) ≡ Some q
unfolding physical
place-physical q = rw (lt-ltb ((q / 1020 * 1024 + q % 1020) % 1024) 1020 (low q), whole q)
  where
    low : (q : ℕ) → (q / 1020 * 1024 + q % 1020) % 1024 < 1020
    low q = omega arith

    whole : (q : ℕ) → (q / 1020 * 1024 + q % 1020) / 1024 * 1020 + (q / 1020 * 1024 + q % 1020) % 1024 ≡ q
    whole q = omega arith

pub physical-small : (q : ℕ) → q ≤ 2 ^ 60 → physical q < 2 ^ 64
unfolding physical
physical-small q small = omega arith

pub rises-from : (least bound : ℕ) (es : List Entry) → Rises least bound es → rises least bound es ≡ true
unfolding rises
rises-from least bound [] up = refl
rises-from least bound (e ∷ es) up = rw (le-leb least e.first up.0, lt-ltb e.first bound up.1, rises-from (e.first + 1) bound es up.2)

pub rises-to : (least bound : ℕ) (es : List Entry) → rises least bound es ≡ true → Rises least bound es
unfolding rises
rises-to least bound [] up = tt
rises-to least bound (e ∷ es) up =
    let first = and_parts (nat_le least e.first) (nat_lt e.first bound && rises (e.first + 1) bound es) up in
    let second = and_parts (nat_lt e.first bound) (rises (e.first + 1) bound es) first.1 in
    (leb-true least e.first first.0, ltb-true e.first bound second.0, rises-to (e.first + 1) bound es second.1)

pub rises-lower : (least' least bound : ℕ) (es : List Entry) → least' ≤ least → Rises least bound es → Rises least' bound es
rises-lower least' least bound [] below up = tt
rises-lower least' least bound (e ∷ es) below up = (omega (arith, up.0), up.1, up.2)

-- of entries and later ones, the first end before the later ones begin
pub rises-split : (least bound : ℕ) (xs ys : List Entry) → least ≤ bound → Rises least bound (xs ++ ys) → Rises least (next_first bound ys) xs × Rises least bound ys × (least ≤ next_first bound ys)
rises-split least bound [] [] below up = (tt, tt, below)
rises-split least bound [] (y ∷ ys) below up = (tt, up, up.0)
rises-split least bound (x ∷ xs) ys below up =
    let rest = rises-split (x.first + 1) bound xs ys (omega (arith, up.1)) up.2 in
    ((up.0, omega (arith, rest.2), rest.0), rises-lower least (x.first + 1) bound ys (omega (arith, up.0)) rest.1, omega (arith, up.0, rest.2))

-- ---- faults over entries

pub next_first-append : (bound : ℕ) (xs ys : List Entry) → next_first bound (xs ++ ys) ≡ next_first (next_first bound ys) xs
next_first-append bound [] ys = refl
next_first-append bound (x ∷ xs) ys = refl

pub each_fault-append : (f : Entry → ℕ → Option Fault) (bound : ℕ) (xs ys : List Entry) → each_fault f bound (xs ++ ys) ≡ option_or (each_fault f (next_first bound ys) xs) (each_fault f bound ys)
unfolding each_fault
each_fault-append f bound [] ys = refl
each_fault-append f bound (x ∷ xs) ys =
    rw (next_first-append bound xs ys, each_fault-append f bound xs ys) (turn (f x (next_first (next_first bound ys) xs)) (each_fault f (next_first bound ys) xs) (each_fault f bound ys))
  where
    turn : (a b c : Option Fault) → option_or a (option_or b c) ≡ option_or (option_or a b) c
    turn None b c = refl
    turn (Some x) b c = refl

pub entry_fault-suc : (file : List ℕ) (s : Section) (level : ℕ) (e : Entry) (bound : ℕ) → entry_fault file s (suc level) e bound ≡ option_or (index_packet_fault file s level e bound) (each_fault (entry_fault file s level) bound (entries_of file e.place))
unfolding entry_fault
entry_fault-suc file s level e bound = refl

pub entries_below-suc : (file : List ℕ) (level : ℕ) (e : Entry) → entries_below file (suc level) e ≡ flat_map (entries_below file level) (entries_of file e.place)
unfolding entries_below
entries_below-suc file level e = refl

-- ---- one index packet

-- the index packet of this level that stands at place q
pub record HasIndexPacket (file : List ℕ) (s : Section) (level q : ℕ) (es : List Entry) : Type 0 where
  pub right : AreRight file
  pub inside : s.end ≤ logical_size file
  pub after : s.start + 32 ≤ q
  pub within : q + length (index_packet level es) ≤ s.end
  pub fits : IsIndexPacket level es
  pub stands : Stands (logical file) q (index_packet level es)

pub entries-are : (file : List ℕ) (s : Section) (level q : ℕ) (es : List Entry) → HasIndexPacket file s level q es → entries_of file (physical q) ≡ es
unfolding entries_of
entries-are file s level q es has =
    let few : length es ≤ 2048 = has.fits.few in
    let r = index_packet-read (logical file) q level es has.fits.small (omega arith) has.fits.room has.stands in
    rw place-physical r.entries

pub shape-sound : (file : List ℕ) (s : Section) (level q : ℕ) (es : List Entry) → HasIndexPacket file s level q es → index_shape_fault file s level (physical q) ≡ None
unfolding index_shape_fault is_misshapen_index
shape-sound file s level q es has =
    let few : length es ≤ 2048 = has.fits.few in
    let size : length (index_packet level es) ≡ 16 + 16 * length es = length-index_packet level es in
    let within : q + length (index_packet level es) ≤ s.end = has.within in
    let inside : s.end ≤ logical_size file = has.inside in
    let r = index_packet-read (logical file) q level es has.fits.small (omega arith) has.fits.room has.stands in
    let start : nat_lt q (s.start + 32) ≡ false = le-ltb q (s.start + 32) has.after in
    let room : nat_lt s.end (q + 16) ≡ false = le-ltb s.end (q + 16) (omega arith) in
    let head : span_fault file q 16 ≡ None = span-right file q 16 has.right (omega arith) in
    let whole : (16 + 16 * length es) % 4 ≡ 0 = omega arith in
    let ends : nat_lt s.end (q + (16 + 16 * length es)) ≡ false = le-ltb s.end (q + (16 + 16 * length es)) (omega arith) in
    let some : (length es == 0) ≡ false = ne_eqb (length es) 0 (λ none. let h : 0 < length es = has.fits.some in omega arith) in
    let most : nat_lt 2048 (length es) ≡ false = le-ltb 2048 (length es) few in
    let listed : nat_lt (16 + 16 * length es) (16 + 16 * length es) ≡ false = le-ltb (16 + 16 * length es) (16 + 16 * length es) (omega arith) in
    let leveled : (level == level) ≡ true = eq-eqb level level refl in
    rw (place-physical, start, room, head, r.sort, r.size, whole, ends, r.count, some, most, listed, r.level, leveled)

begin_and_rise : (first bound : ℕ) (es : List Entry) → 0 < length es → first ≡ first_record es → Rises first bound es → begins_and_rises first bound es ≡ true
unfolding begins_and_rises
begin_and_rise first bound [] some begins up = absurd (omega arith)
begin_and_rise first bound (e ∷ es) some begins up = rw (eq-eqb e.first first (sym begins), rises-from first bound (e ∷ es) up)

pub packet-sound : (file : List ℕ) (s : Section) (level q first bound : ℕ) (es : List Entry) → HasIndexPacket file s level q es → first ≡ first_record es → Rises first bound es → index_packet_fault file s level (record { first = first; place = physical q }) bound ≡ None
unfolding index_packet_fault
packet-sound file s level q first bound es has begins up =
    let few : length es ≤ 2048 = has.fits.few in
    let size : length (index_packet level es) ≡ 16 + 16 * length es = length-index_packet level es in
    let within : q + length (index_packet level es) ≤ s.end = has.within in
    let inside : s.end ≤ logical_size file = has.inside in
    let r = index_packet-read (logical file) q level es has.fits.small (omega arith) has.fits.room has.stands in
    let body : span_fault file (q + 16) (16 * length es) ≡ None = span-right file (q + 16) (16 * length es) has.right (omega arith) in
    rw (shape-sound file s level q es has, place-physical, r.count, body, entries-are file s level q es has, begin_and_rise first bound es has.fits.some begins up)

-- ---- one level of the index

-- the entries of runs, one run after another
abbrev pub all_of : List (List Entry) → List Entry
all_of runs = flat_map (λ (run : List Entry). run) runs

-- The index packets of this level stand from place q on, one for each run. Their entries rise, and lead to no fault.
pub record HasLevel (file : List ℕ) (s : Section) (level q least bound : ℕ) (runs : List (List Entry)) : Type 0 where
  pub right : AreRight file
  pub inside : s.end ≤ logical_size file
  pub after : s.start + 32 ≤ q
  pub within : q + length (packets_bytes (level_spelled level runs)) ≤ s.end
  pub fits : AllByRecursion (IsIndexPacket level) runs
  pub stands : Stands (logical file) q (packets_bytes (level_spelled level runs))
  pub low : least ≤ bound
  pub up : Rises least bound (all_of runs)
  pub sound : each_fault (entry_fault file s level) bound (all_of runs) ≡ None

-- then the entries that name these packets rise too, lead to no fault, and lead on to the same entries of height 0
pub record IsLevel (file : List ℕ) (s : Section) (level q least bound : ℕ) (runs : List (List Entry)) : Type 0 where
  pub up : Rises least bound (upper_entries q runs)
  pub sound : each_fault (entry_fault file s (suc level)) bound (upper_entries q runs) ≡ None
  pub below : flat_map (entries_below file (suc level)) (upper_entries q runs) ≡ flat_map (entries_below file level) (all_of runs)
  pub begins : next_first bound (upper_entries q runs) ≡ next_first bound (all_of runs)

level-cons : (file : List ℕ) (s : Section) (level q least bound : ℕ) (x : Entry) (xs : List Entry) (runs : List (List Entry)) → HasLevel file s level q least bound ((x ∷ xs) ∷ runs)
    → IsLevel file s level (q + index_size (length (x ∷ xs))) (x.first + 1) bound runs → IsLevel file s level q least bound ((x ∷ xs) ∷ runs)
unfolding upper_entries level_spelled packet_bytes each_fault
level-cons file s level q least bound x xs runs has later =
    let size : length (index_packet level (x ∷ xs)) ≡ 16 + 16 * length (x ∷ xs) = length-index_packet level (x ∷ xs) in
    let sizes : length (index_packet level (x ∷ xs) ++ packets_bytes (level_spelled level runs)) ≡ length (index_packet level (x ∷ xs)) + length (packets_bytes (level_spelled level runs)) = length-append (index_packet level (x ∷ xs)) (packets_bytes (level_spelled level runs)) in
    let within : q + length (index_packet level (x ∷ xs) ++ packets_bytes (level_spelled level runs)) ≤ s.end = has.within in
    let split = rises-split (x.first + 1) bound xs (all_of runs) (omega (arith, has.up.1)) has.up.2 in
    let here : HasIndexPacket file s level q (x ∷ xs) = record { right = has.right; inside = has.inside; after = has.after; within = omega arith; fits = has.fits.0; stands = Stands-front (logical file) q (index_packet level (x ∷ xs)) (packets_bytes (level_spelled level runs)) has.stands } in
    let ups : Rises x.first (next_first bound (all_of runs)) (x ∷ xs) = (omega arith, omega (arith, split.2), split.0) in
    let found = each_fault-append (entry_fault file s level) bound (x ∷ xs) (all_of runs) in
    let parts = option_or_parts (each_fault (entry_fault file s level) (next_first bound (all_of runs)) (x ∷ xs)) (each_fault (entry_fault file s level) bound (all_of runs)) (sym found ∙ has.sound) in
    let packet = packet-sound file s level q x.first (next_first bound (all_of runs)) (x ∷ xs) here refl ups in
    let read = entries-are file s level q (x ∷ xs) here in
    record {
      up = (has.up.0, has.up.1, later.up);
      sound = rw (later.begins, entry_fault-suc, packet, read, parts.0, later.sound);
      below = rw (entries_below-suc, read, later.below, flat_map-append) refl;
      begins = refl;
    }

pub level-sound : (file : List ℕ) (s : Section) (level q least bound : ℕ) (runs : List (List Entry)) → HasLevel file s level q least bound runs → IsLevel file s level q least bound runs
unfolding upper_entries level_spelled packet_bytes each_fault
level-sound file s level q least bound [] has = record { up = tt; sound = refl; below = refl; begins = refl }
level-sound file s level q least bound ([] ∷ runs) has = absurd (omega (arith, has.fits.0.some))
level-sound file s level q least bound ((x ∷ xs) ∷ runs) has =
    level-cons file s level q least bound x xs runs has (level-sound file s level (q + index_size (length (x ∷ xs))) (x.first + 1) bound runs (next has))
  where
    next : HasLevel file s level q least bound ((x ∷ xs) ∷ runs) → HasLevel file s level (q + index_size (length (x ∷ xs))) (x.first + 1) bound runs
    next has =
        let size : length (index_packet level (x ∷ xs)) ≡ index_size (length (x ∷ xs)) = length-index_packet level (x ∷ xs) in
        let sizes : length (index_packet level (x ∷ xs) ++ packets_bytes (level_spelled level runs)) ≡ length (index_packet level (x ∷ xs)) + length (packets_bytes (level_spelled level runs)) = length-append (index_packet level (x ∷ xs)) (packets_bytes (level_spelled level runs)) in
        let within : q + length (index_packet level (x ∷ xs) ++ packets_bytes (level_spelled level runs)) ≤ s.end = has.within in
        let after : s.start + 32 ≤ q = has.after in
        let split = rises-split (x.first + 1) bound xs (all_of runs) (omega (arith, has.up.1)) has.up.2 in
        let found = each_fault-append (entry_fault file s level) bound (x ∷ xs) (all_of runs) in
        let parts = option_or_parts (each_fault (entry_fault file s level) (next_first bound (all_of runs)) (x ∷ xs)) (each_fault (entry_fault file s level) bound (all_of runs)) (sym found ∙ has.sound) in
        let behind = Stands-behind (logical file) q (index_packet level (x ∷ xs)) (packets_bytes (level_spelled level runs)) has.stands in
        record {
          right = has.right;
          inside = has.inside;
          after = omega arith;
          within = omega arith;
          fits = has.fits.1;
          stands = subst (λ (n : ℕ). Stands (logical file) (q + n) (packets_bytes (level_spelled level runs))) size behind;
          low = omega (arith, has.up.1);
          up = split.1;
          sound = parts.1;
        }

-- ---- how entries are cut into runs

-- a single run is all entries
one-run : (runs : List (List Entry)) → 0 < length runs → length runs ≤ 1 → runs ≡ all_of runs ∷ []
one-run [] some few = absurd (omega arith)
one-run (run ∷ []) some few = ap (λ (es : List Entry). es ∷ []) (sym (append-nil run))
one-run (run ∷ next ∷ runs) some few = absurd (omega arith)

-- each run is one index packet's
runs-fit : (level : ℕ) (runs : List (List Entry)) → level < 2 ^ 8 → AllByRecursion IsEntryRun runs → AllByRecursion (AllByRecursion IsEntry) runs → AllByRecursion (IsIndexPacket level) runs
runs-fit level [] small are room = tt
runs-fit level (run ∷ runs) small are room = (record { small = small; some = are.0.some; few = are.0.most; room = room.0 }, runs-fit level runs small are.1 room.1)

pub entry_runs-fit : (level : ℕ) (es : List Entry) → level < 2 ^ 8 → AllByRecursion IsEntry es → AllByRecursion (IsIndexPacket level) (entry_runs es)
entry_runs-fit level es small room = runs-fit level (entry_runs es) small (entry_runs-are es) (entry_runs-all IsEntry es room)

pub runs_few-more : (k : ℕ) (es : List Entry) → length es ≤ 2048 ^ suc k → length (entry_runs es) ≤ 2048 ^ k
runs_few-more k es few = let count = entry_runs-count es in omega (arith, pow-suc 2048 k)

upper-room : (level q least bound : ℕ) (runs : List (List Entry)) → bound ≤ 2 ^ 64 → q + length (packets_bytes (level_spelled level runs)) ≤ 2 ^ 60 → Rises least bound (upper_entries q runs) → AllByRecursion IsEntry (upper_entries q runs)
unfolding upper_entries level_spelled packet_bytes
upper-room level q least bound [] small near up = tt
upper-room level q least bound (run ∷ runs) small near up =
    let size : length (index_packet level run) ≡ index_size (length run) = length-index_packet level run in
    let sizes : length (index_packet level run ++ packets_bytes (level_spelled level runs)) ≡ length (index_packet level run) + length (packets_bytes (level_spelled level runs)) = length-append (index_packet level run) (packets_bytes (level_spelled level runs)) in
    (record { first = omega (arith, up.1); place = physical-small q (omega arith) }, upper-room level (q + index_size (length run)) (first_record run + 1) bound runs small (omega arith) up.2)

-- ---- the whole index

-- an index has no fault, and leads to these entries of height 0
pub record IsIndexOf (file : List ℕ) (s : Section) (all : List Entry) : Type 0 where
  pub sound : index_fault file s ≡ None
  pub leads : entries file s ≡ all

start-sound : (file : List ℕ) (s : Section) (level q : ℕ) (es : List Entry) → HasIndexPacket file s level q es → index_start_fault file s (physical q) (place (physical q)) ≡ None
unfolding index_shape_fault
start-sound file s level q es has = (option_or_parts (index_start_fault file s (physical q) (place (physical q))) _ (shape-sound file s level q es has)).0

-- The packet of this level at place q is the root.
root-sound : (file : List ℕ) (s : Section) (level q : ℕ) (es : List Entry) → HasIndexPacket file s level q es → level ≤ 5 → s.index ≡ physical q → next_first s.count es ≡ 0 → Rises 0 s.count es
    → each_fault (entry_fault file s level) s.count es ≡ None → IsIndexOf file s (flat_map (entries_below file level) es)
unfolding index_fault entries root_fault root_level
root-sound file s level q es has low root begins up sound =
    let few : length es ≤ 2048 = has.fits.few in
    let r = index_packet-read (logical file) q level es has.fits.small (omega arith) has.fits.room has.stands in
    let leveled = subst (λ (o : ℕ). level_at (logical file) (known_place o) ≡ level) (sym root) (rw place-physical r.level) in
    let read = subst (λ (o : ℕ). entries_of file o ≡ es) (sym root) (entries-are file s level q es has) in
    let first : 0 ≡ first_record es = begun es has.fits.some begins in
    let packet = subst (λ (o : ℕ). index_packet_fault file s level (record { first = 0; place = o }) s.count ≡ None) (sym root) (packet-sound file s level q 0 s.count es has first up) in
    let start = subst (λ (o : ℕ). index_start_fault file s o (place o) ≡ None) (sym root) (start-sound file s level q es has) in
    let high : nat_lt 5 level ≡ false = le-ltb 5 level low in
    record {
      sound = rw (start, leveled, high, entry_fault-suc, packet, read, sound);
      leads = rw (leveled, entries_below-suc, read);
    }
  where
    begun : (es : List Entry) → 0 < length es → next_first s.count es ≡ 0 → 0 ≡ first_record es
    begun [] some begins = absurd (omega arith)
    begun (e ∷ es) some begins = sym begins

-- the index packets of these entries of this height stand from place q on, in at most `most` more levels
pub record HasIndex (file : List ℕ) (s : Section) (most level q : ℕ) (es : List Entry) : Type 0 where
  pub right : AreRight file
  pub inside : s.end ≤ logical_size file
  pub small : s.end ≤ 2 ^ 60
  pub counted : s.count ≤ 2 ^ 64
  pub after : s.start + 32 ≤ q
  pub within : q + length (packets_bytes (index_spelled (suc most) level q es)) ≤ s.end
  pub stands : Stands (logical file) q (packets_bytes (index_spelled (suc most) level q es))
  pub root : s.index ≡ physical (root_place (suc most) level q es)
  pub some : 0 < length es
  pub few : length es ≤ 2048 ^ suc most
  pub low : level + most ≤ 5
  pub room : AllByRecursion IsEntry es
  pub begins : next_first s.count es ≡ 0
  pub up : Rises 0 s.count es
  pub sound : each_fault (entry_fault file s level) s.count es ≡ None

index-one : (file : List ℕ) (s : Section) (most level q : ℕ) (es : List Entry) → HasIndex file s most level q es → length (entry_runs es) ≤ 1 → IsIndexOf file s (flat_map (entries_below file level) es)
unfolding level_spelled packet_bytes
index-one file s most level q es has few =
    let some : 0 < length (entry_runs es) = let count = entry_runs-count es in omega (arith, has.some) in
    let one : entry_runs es ≡ es ∷ [] = one-run (entry_runs es) some few ∙ ap (λ (all : List Entry). all ∷ []) (entry_runs-joined es) in
    let spelled = index_spelled-last most level q es few in
    let bytes : packets_bytes (index_spelled (suc most) level q es) ≡ index_packet level es = rw (spelled, one) (append-nil (index_packet level es)) in
    let fit = entry_runs-fit level es (omega (arith, has.low)) has.room in
    root-sound file s level q es
    (record {
      right = has.right;
      inside = has.inside;
      after = has.after;
      within = rw bytes at has.within;
      fits = (rw one at fit).0;
      stands = rw bytes at has.stands;
    })
    (omega (arith, has.low)) (has.root ∙ ap physical (root_place-last most level q es few)) has.begins has.up has.sound

-- more than one packet: the packets of this level
pub level-has : (file : List ℕ) (s : Section) (most level q : ℕ) (es : List Entry) → HasIndex file s most level q es → 1 < length (entry_runs es) → HasLevel file s level q 0 s.count (entry_runs es)
level-has file s most level q es has many =
    let spelled = index_spelled-more most level q es many in
    let low = level_spelled level (entry_runs es) in
    let high = index_spelled most (level + 1) (q + level_size level (entry_runs es)) (upper_entries q (entry_runs es)) in
    let bytes : packets_bytes (index_spelled (suc most) level q es) ≡ packets_bytes low ++ packets_bytes high = ap packets_bytes spelled ∙ flat_map-append packet_bytes low high in
    let within = rw (bytes, length-append (packets_bytes low) (packets_bytes high)) at has.within in
    let stands = rw bytes at has.stands in
    record {
      right = has.right;
      inside = has.inside;
      after = has.after;
      within = omega arith;
      fits = entry_runs-fit level es (omega (arith, has.low)) has.room;
      stands = Stands-front (logical file) q (packets_bytes low) (packets_bytes high) stands;
      low = omega arith;
      up = subst (λ (all : List Entry). Rises 0 s.count all) (sym (entry_runs-joined es)) has.up;
      sound = rw entry_runs-joined has.sound;
    }

-- and the levels above
pub rest-has : (file : List ℕ) (s : Section) (most level q : ℕ) (es : List Entry) → HasIndex file s (suc most) level q es → 1 < length (entry_runs es) → IsLevel file s level q 0 s.count (entry_runs es)
    → HasIndex file s most (suc level) (q + level_size level (entry_runs es)) (upper_entries q (entry_runs es))
rest-has file s most level q es has many lv =
    let spelled = subst (λ (n : ℕ). index_spelled (suc (suc most)) level q es ≡ level_spelled level (entry_runs es) ++ index_spelled (suc most) n (q + level_size level (entry_runs es)) (upper_entries q (entry_runs es))) (add-one level) (index_spelled-more (suc most) level q es many) in
    let rooted = subst (λ (n : ℕ). root_place (suc (suc most)) level q es ≡ root_place (suc most) n (q + level_size level (entry_runs es)) (upper_entries q (entry_runs es))) (add-one level) (root_place-more (suc most) level q es many) in
    let low = level_spelled level (entry_runs es) in
    let high = index_spelled (suc most) (suc level) (q + level_size level (entry_runs es)) (upper_entries q (entry_runs es)) in
    let bytes : packets_bytes (index_spelled (suc (suc most)) level q es) ≡ packets_bytes low ++ packets_bytes high = ap packets_bytes spelled ∙ flat_map-append packet_bytes low high in
    let within = rw (bytes, length-append (packets_bytes low) (packets_bytes high)) at has.within in
    let stands = rw bytes at has.stands in
    let count = length-upper_entries q (entry_runs es) in
    let few = runs_few-more (suc most) es has.few in
    record {
      right = has.right;
      inside = has.inside;
      small = has.small;
      counted = has.counted;
      after = omega (arith, has.after);
      within = omega arith;
      stands = Stands-behind (logical file) q (packets_bytes low) (packets_bytes high) stands;
      root = has.root ∙ ap physical rooted;
      some = omega arith;
      few = rw count few;
      low = omega (arith, has.low);
      room = upper-room level q 0 s.count (entry_runs es) has.counted (omega (arith, has.small)) lv.up;
      begins = lv.begins ∙ ap (next_first s.count) (entry_runs-joined es) ∙ has.begins;
      up = lv.up;
      sound = lv.sound;
    }

-- The index of entries without fault has none, and leads to what they lead to.
pub index-sound : (file : List ℕ) (s : Section) (most level q : ℕ) (es : List Entry) → HasIndex file s most level q es → IsIndexOf file s (flat_map (entries_below file level) es)
index-sound file s zero level q es has = index-one file s zero level q es has (runs_few-more 0 es has.few)
index-sound file s (suc most) level q es has =
    ⊎_elim
    (λ (many : 1 < length (entry_runs es)).
    let lv = level-sound file s level q 0 s.count (entry_runs es) (level-has file s (suc most) level q es has many) in
    let rest = index-sound file s most (suc level) (q + level_size level (entry_runs es)) (upper_entries q (entry_runs es)) (rest-has file s most level q es has many lv) in
    record { sound = rest.sound; leads = rest.leads ∙ lv.below ∙ ap (flat_map (entries_below file level)) (entry_runs-joined es) })
    (λ (few : length (entry_runs es) ≤ 1). index-one file s (suc most) level q es has few)
    (cases_lt 1 (length (entry_runs es)))

-- Laws of a block: with it the cloud and the file stand for more records.
use Rattle.std.proofs.Common.{◌≡◌, ℕ, zero, suc, ◌+◌, ◌-◌, ◌*◌, ◌/◌, ◌<◌, ◌≤◌, Bool, true, false, List, [], ◌∷◌, ◌++◌, length, map, drop, get_or, replicate, Option, Some, None, refl, sym, ap, ◌∙◌, arith, inl, inr}
use Rattle.std.specs.Prelude.{slice_index_or}
use Rattle.std.specs.List.{AllByRecursion}
use Rattle.std.specs.Option.{option_map}
use Rattle.std.proofs.lemmas.List.{length-map, length-drop, take_all}
use Rattle.std.proofs.Math.Nat.{zero-div}
use Rattle.e57_layout.specs.Values.{ItemKind, Value}
use Rattle.e57_layout.specs.Items.{AreColumns, AreItems}
use Rattle.e57_layout.specs.Packing.{first_records, later_records, chunk_groups, fits_packet}
use Rattle.e57_layout.specs.Steps.{Step, steps}
use Rattle.e57_layout.specs.Written.{Spelled, packets_bytes, flagged, data_spelled, chunks_spelled, chunk_entries, entries_for}
use Rattle.e57_layout.specs.declared.packet.Entry.{Entry}
use Rattle.e57_layout.proofs.Laws.Blocks.{blocks-none}
use Rattle.e57_page_out.specs.Sealed.{filled, pages_for}
use Rattle.e57_page_out.specs.Writing.{Writing}
use Rattle.e57_chunk_out.specs.Waiting.{Waiting, IsWaiting, later_items}
use Rattle.e57_chunk_out.specs.Cutting.{streams_of}
use Rattle.e57_chunk_out.specs.SideBySide.{Has}
use Rattle.e57_chunk_out.specs.Grouping.{kinds_of, columns_of, run_of, IsFresh}
use Rattle.e57_chunk_out.specs.Going.{HasRuns, IsGathered}
use Rattle.e57_chunk_out.specs.Progress.{in_chunks, open_groups, closed_packets, open_packets, packets_so_far, run_so_far, is_nil}
use Rattle.e57_chunk_out.specs.Standing.{IsUnderWay}
use Rattle.e57_chunk_out.specs.Turns.{IsChunked}
use Rattle.e57_chunk_out.specs.declared.run.Run.{Run}
use Rattle.e57_chunk_out.specs.declared.turn.Chunks.{Chunks}
use Rattle.e57_chunk_out.proofs.Joins.{groups-none}
use Rattle.e57_chunk_out.proofs.Stepping.{steps-none}

-- ---- fields without their first items

items-later : (kind : ItemKind) (n : ℕ) (items : List Value) → AreItems kind items → AreItems kind (drop n items)
items-later kind zero items h = h
items-later kind (suc n) [] h = tt
items-later kind (suc n) (x ∷ items) h = items-later kind n items h.1

pub kinds-later : (n : ℕ) (fields : List Waiting) → kinds_of (map (later_items n) fields) ≡ kinds_of fields
kinds-later n [] = refl
kinds-later n (w ∷ fields) = ap (λ (ks : List ItemKind). w.kind ∷ ks) (kinds-later n fields)

pub streams-later : (n : ℕ) (fields : List Waiting) → streams_of (map (later_items n) fields) ≡ streams_of fields
streams-later n [] = refl
streams-later n (w ∷ fields) = ap (λ (ss : List (List ℕ)). w.stream ∷ ss) (streams-later n fields)

pub columns-later : (n : ℕ) (fields : List Waiting) → columns_of (map (later_items n) fields) ≡ later_records n (columns_of fields)
unfolding later_records
columns-later n [] = refl
columns-later n (w ∷ fields) = ap (λ (cs : List (List Value)). drop n w.items ∷ cs) (columns-later n fields)

pub run-later : (b : Bool) (n : ℕ) (fields : List Waiting) → run_of b (map (later_items n) fields) ≡ run_of b fields
run-later true n fields = ap Some (streams-later n fields)
run-later false n fields = refl

waiting-later : (n : ℕ) (fields : List Waiting) → AllByRecursion IsWaiting fields → AllByRecursion IsWaiting (map (later_items n) fields)
waiting-later n [] h = tt
waiting-later n (w ∷ fields) h =
    let size = length-drop n w.items in
    (record { kind = h.0.kind; items = items-later w.kind n w.items h.0.items; few = omega (arith, size, h.0.few) }, waiting-later n fields h.1)

fresh-later : (n : ℕ) (fields : List Waiting) → AllByRecursion IsFresh fields → AllByRecursion IsFresh (map (later_items n) fields)
fresh-later n [] h = tt
fresh-later n (w ∷ fields) h = (h.0, fresh-later n fields h.1)

runs-one : (records most n : ℕ) (w : Waiting) → HasRuns records most w → HasRuns records most (later_items n w)
runs-one records most n w (inl e) = inl e
runs-one records most n w (inr numbers) = inr (record { width = numbers.width; few = numbers.few; room = numbers.room })

runs-later : (records most n : ℕ) (fields : List Waiting) → AllByRecursion (HasRuns records most) fields → AllByRecursion (HasRuns records most) (map (later_items n) fields)
runs-later records most n [] h = tt
runs-later records most n (w ∷ fields) h = (runs-one records most n w h.0, runs-later records most n fields h.1)

pub gathered_later : (n : ℕ) (fields : List Waiting) (run : Run) → IsGathered fields run → IsGathered (map (later_items n) fields) run
gathered_later n fields run gathered =
    let count = length-map fields (later_items n) in
    record {
      some = omega (arith, gathered.some, count);
      few = omega (arith, gathered.few, count);
      waiting = waiting-later n fields gathered.waiting;
      fresh = λ none. fresh-later n fields (gathered.fresh none);
      fits = λ more. ap fits_packet (streams-later n fields) ∙ gathered.fits more;
      rooms = runs-later run.records run.most n fields gathered.rooms;
    }

pub chunked_later : (n e : ℕ) (fields : List Waiting) (chunks : Chunks) → IsChunked e fields chunks → IsChunked e (map (later_items n) fields) chunks
chunked_later n e fields chunks chunked = record {
  gathered = gathered_later n fields chunks.run chunked.gathered;
  some = chunked.some;
  groups = chunked.groups;
  few = chunked.few;
  limit = chunked.limit;
  most = chunked.most;
  within = chunked.within;
  entries = chunked.entries;
  room = chunked.room;
}

-- ---- columns of so many items

abbrev pub AreOf : ℕ → List (List Value) → Type 0
AreOf n columns = AllByRecursion (λ (column : List Value). length column ≡ n) columns

-- behind the first r items there are m of each field
pub block-columns : (r m : ℕ) (fields : List Waiting) → AllByRecursion IsWaiting fields → AreOf (r + m) (columns_of fields) → AreColumns (kinds_of fields) m (later_records r (columns_of fields))
unfolding later_records
block-columns r m [] h g = tt
block-columns r m (w ∷ fields) h g =
    let size = length-drop r w.items in
    (omega (arith, size, g.0), items-later w.kind r w.items h.0.items, block-columns r m fields h.1 g.1)

pub of-later : (n m : ℕ) (columns : List (List Value)) → AreOf (n + m) columns → AreOf m (later_records n columns)
unfolding later_records
of-later n m [] h = tt
of-later n m (c ∷ columns) h = let size = length-drop n c in (omega (arith, size, h.0), of-later n m columns h.1)

pub of-has : (n m : ℕ) (fields : List Waiting) → m ≤ n → AreOf n (columns_of fields) → AllByRecursion (Has m) fields
of-has n m [] l h = tt
of-has n m (w ∷ fields) l h = (omega (arith, h.0, l), of-has n m fields l h.1)

-- the first of them are all
pub first-of-all : (n : ℕ) (columns : List (List Value)) → AreOf n columns → first_records n columns ≡ columns
unfolding first_records
first-of-all n [] h = refl
first-of-all n (c ∷ columns) h = let size : length c ≤ n = omega (arith, h.0) in rw (take_all n c size, first-of-all n columns h.1) refl

-- the first field's items
pub first-of : (n : ℕ) (fields : List Waiting) (w : Waiting) → 0 < length fields → AreOf n (columns_of fields) → w ≡ get_or fields 0 w → length w.items ≡ n
first-of n [] w some h is = absurd (omega arith)
first-of n (v ∷ fields) w some h is = ap (λ (x : Waiting). length x.items) is ∙ h.0

-- ---- no record yet

chunks-none : (n : ℕ) → in_chunks n 0 ≡ 0
unfolding in_chunks
chunks-none n = let none : 0 / n ≡ 0 = zero-div n in ap (λ q. n * q) none ∙ times-none n
  where
    times-none : (n : ℕ) → n * 0 ≡ 0
    times-none n = grind arith

groups-zero : (kinds : List ItemKind) (n : ℕ) (cs : List (List Value)) → open_groups kinds n 0 cs ≡ []
unfolding open_groups
groups-zero kinds n cs =
    let none : 0 - in_chunks n 0 ≡ 0 = omega arith in
    ap (λ m. chunk_groups kinds (record { count = m; columns = later_records (in_chunks n 0) cs })) none ∙ groups-none kinds (later_records (in_chunks n 0) cs)

pub open-zero : (kinds : List ItemKind) (n : ℕ) (cs : List (List Value)) → open_packets kinds n 0 cs ≡ []
unfolding open_packets
open-zero kinds n cs = ap (λ (gs : List (List (List ℕ))). (steps None gs).done) (groups-zero kinds n cs) ∙ ap (λ (s : Step). s.done) (steps-none None)

pub run-zero : (kinds : List ItemKind) (n : ℕ) (cs : List (List Value)) → run_so_far kinds n 0 cs ≡ None
unfolding run_so_far
run-zero kinds n cs = ap (λ (gs : List (List (List ℕ))). (steps None gs).run) (groups-zero kinds n cs) ∙ ap (λ (s : Step). s.run) (steps-none None)

data-zero : (kinds : List ItemKind) (n : ℕ) (cs : List (List Value)) → data_spelled kinds n 0 cs ≡ []
unfolding data_spelled chunks_spelled
data-zero kinds n cs = ap (chunks_spelled kinds) (blocks-none n cs)

closed-zero : (kinds : List ItemKind) (n : ℕ) (cs : List (List Value)) → closed_packets kinds n 0 cs ≡ []
unfolding closed_packets
closed-zero kinds n cs = ap (λ m. data_spelled kinds n m (first_records m cs)) (chunks-none n) ∙ data-zero kinds n (first_records 0 cs)

pub so_far-zero : (kinds : List ItemKind) (n : ℕ) (cs : List (List Value)) → packets_so_far kinds n 0 cs ≡ []
unfolding packets_so_far flagged
so_far-zero kinds n cs = ap (λ (ps : List Spelled). ps ++ flagged true (open_packets kinds n 0 cs)) (closed-zero kinds n cs) ∙ ap (λ (ps : List (List (List ℕ))). flagged true ps) (open-zero kinds n cs)

pub entries-zero : (p : ℕ) (kinds : List ItemKind) (n : ℕ) (cs : List (List Value)) → entries_for p kinds n 0 cs ≡ []
unfolding chunk_entries
entries-zero p kinds n cs = ap (chunk_entries kinds p 0) (blocks-none n cs)

-- ---- the section under way

-- it speaks of the first records alone
pub way_same : {T : Type 0} (before : Option (List ℕ)) (start : ℕ) (kinds : List ItemKind) (n e : ℕ) (cs more : List (List Value)) (run : Option (List (List ℕ))) (begun : Bool) (entries : List Entry) (out : Writing T) → first_records e more ≡ first_records e cs → IsUnderWay before start kinds n e cs run begun entries out → IsUnderWay before start kinds n e more run begun entries out
way_same before start kinds n e cs more run begun entries out is way = record {
  streams = way.streams ∙ ap (run_so_far kinds n e) (sym is);
  begun = ap (λ (xs : List (List Value)). is_nil (open_packets kinds n e xs)) is ∙ way.begun;
  held = way.held;
  size = way.size ∙ ap (λ (xs : List (List Value)). 1020 * pages_for start + 32 + length (packets_bytes (packets_so_far kinds n e xs))) (sym is);
  bytes = way.bytes ∙ ap (λ (xs : List (List Value)). option_map (λ b. filled (pages_for start) b ++ (replicate 32 0 ++ packets_bytes (packets_so_far kinds n e xs))) before) (sym is);
  index = way.index ∙ ap (entries_for (1020 * pages_for start + 32) kinds n e) (sym is);
}

pub first-column : {n : ℕ} (fields : List Waiting) → AreOf n (columns_of fields) → 0 < length fields → length (slice_index_or (columns_of fields) 0 []) ≡ n
first-column [] h some = absurd (omega arith)
first-column (w ∷ fields) h some = h.0

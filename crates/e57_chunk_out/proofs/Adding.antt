-- Laws of items that are put behind those of a field.
use Rattle.std.proofs.Common.{◌≡◌, ℕ, zero, suc, ◌+◌, ◌-◌, ◌%◌, ◌<◌, ◌≤◌, Bool, true, false, List, [], ◌∷◌, ◌++◌, length, map, set, take, drop, get_or, Option, Some, None, refl, sym, ap, subst, ◌∙◌, arith, inl, inr}
use Rattle.std.specs.Prelude.{slice_set, slice_index_or, IfSome}
use Rattle.std.specs.List.{AllByRecursion}
use Rattle.std.proofs.lemmas.List.{length-set, map-set, set-get_or, get_or-map, take-append-le, length-take, length-drop}
use Rattle.e57_layout.specs.Values.{ItemKind, Value, strings}
use Rattle.e57_layout.specs.Items.{AreColumns}
use Rattle.e57_layout.specs.Packing.{first_records, later_records, fits_packet}
use Rattle.e57_page_out.specs.Writing.{Writing}
use Rattle.e57_chunk_out.specs.Waiting.{Waiting, IsWaiting, with_more}
use Rattle.e57_chunk_out.specs.Cutting.{streams_of}
use Rattle.e57_chunk_out.specs.Grouping.{kinds_of, columns_of, run_of, IsFresh}
use Rattle.e57_chunk_out.specs.Going.{has_run, HasRuns, IsGathered}
use Rattle.e57_chunk_out.specs.Standing.{Cloud, Stands, IsPut, in_groups}
use Rattle.e57_chunk_out.specs.Clouds.{cloud_of, IsCloud}
use Rattle.e57_chunk_out.specs.CloudCalls.{in_block, new_cloud, waiting_of, with_items}
use Rattle.e57_chunk_out.specs.declared.section.Begun.{Begun}
use Rattle.e57_chunk_out.specs.declared.run.Run.{Run}
use Rattle.e57_chunk_out.specs.declared.turn.Chunks.{Chunks}
use Rattle.e57_chunk_out.proofs.Side.{read-all}

all-set : {A : Type 0} (P : A → Type 0) (xs : List A) (i : ℕ) (v : A) → AllByRecursion P xs → P v → AllByRecursion P (set xs i v)
all-set P [] i v h g = tt
all-set P (x ∷ xs) zero v h g = (g, h.1)
all-set P (x ∷ xs) (suc i) v h g = (h.0, all-set P xs i v h.1 g)

module _ (fields : List Waiting) (f : ℕ) (w now : Waiting) (values : List Value) (there : f < length fields) (is : w ≡ get_or fields f w) (more : now ≡ with_more values w) where
  abbrev fields_now : List Waiting
  fields_now = set fields f now

  -- the kind of the field
  pub kind-at : slice_index_or (kinds_of fields) f strings ≡ w.kind
  kind-at = get_or-map (λ (v : Waiting). v.kind) fields f w strings there ∙ ap (λ (v : Waiting). v.kind) (sym is)

  pub items-at : slice_index_or (columns_of fields) f [] ≡ w.items
  items-at = get_or-map (λ (v : Waiting). v.items) fields f w [] there ∙ ap (λ (v : Waiting). v.items) (sym is)

  kinds-set : kinds_of fields_now ≡ kinds_of fields
  kinds-set =
      map-set (λ (v : Waiting). v.kind) fields f now
      ∙ ap (λ (v : Waiting). set (kinds_of fields) f v.kind) more
      ∙ ap (set (kinds_of fields) f) (sym kind-at)
      ∙ set-get_or (kinds_of fields) f strings

  streams-set : streams_of fields_now ≡ streams_of fields
  streams-set =
      map-set (λ (v : Waiting). v.stream) fields f now
      ∙ ap (λ (v : Waiting). set (streams_of fields) f v.stream) more
      ∙ ap (set (streams_of fields) f) (sym (get_or-map (λ (v : Waiting). v.stream) fields f w [] there ∙ ap (λ (v : Waiting). v.stream) (sym is)))
      ∙ set-get_or (streams_of fields) f []

  columns-set : columns_of fields_now ≡ slice_set (columns_of fields) f (slice_index_or (columns_of fields) f [] ++ values)
  columns-set =
      map-set (λ (v : Waiting). v.items) fields f now
      ∙ ap (λ (v : Waiting). set (columns_of fields) f v.items) more
      ∙ ap (λ (xs : List Value). set (columns_of fields) f (xs ++ values)) (sym items-at)

  run-set : (b : Bool) → run_of b fields_now ≡ run_of b fields
  run-set true = ap Some streams-set
  run-set false = refl

  pub added_is : (chunks : Chunks) (count : ℕ) (section : Option Begun) → cloud_of fields_now chunks count section false ≡ with_items (cloud_of fields chunks count section false) f values
  added_is chunks count section =
      ap (λ (ks : List ItemKind). record (cloud_of fields_now chunks count section false) { kinds = ks }) kinds-set
      ∙ ap (λ (cs : List (List Value)). record (cloud_of fields_now chunks count section false) { kinds = kinds_of fields; pending = cs }) columns-set
      ∙ ap (λ (r : Option (List (List ℕ))). record (cloud_of fields chunks count section false) { pending = slice_set (columns_of fields) f (slice_index_or (columns_of fields) f [] ++ values); run = r }) (run-set (has_run chunks.run))

  runs-now : (records most : ℕ) → HasRuns records most w → HasRuns records most now
  runs-now records most h = subst (HasRuns records most) (sym more) (same h)
    where
      same : HasRuns records most w → HasRuns records most (with_more values w)
      same (inl e) = inl e
      same (inr numbers) = inr (record { width = numbers.width; few = numbers.few; room = numbers.room })

  fresh-now : IsFresh w → IsFresh now
  fresh-now h = ap (λ (v : Waiting). v.stream) more ∙ h

  gathered-now : (run : Run) → IsGathered fields run → IsWaiting now → IsGathered fields_now run
  gathered-now run gathered waiting =
      let size = length-set fields f now in
      record {
        some = omega (arith, gathered.some, size);
        few = omega (arith, gathered.few, size);
        waiting = all-set IsWaiting fields f now gathered.waiting waiting;
        fresh = λ none. all-set IsFresh fields f now (gathered.fresh none) (fresh-now (read-all IsFresh fields f w (gathered.fresh none) there is));
        fits = λ has. ap fits_packet streams-set ∙ gathered.fits has;
        rooms = all-set (HasRuns run.records run.most) fields f now gathered.rooms (runs-now run.records run.most (read-all (HasRuns run.records run.most) fields f w gathered.rooms there is));
      }

  pub added : (chunks : Chunks) (count : ℕ) (section : Option Begun) → IsCloud fields chunks count section → IsWaiting now → IsCloud fields_now chunks count section
  added chunks count section cloud waiting = record {
    chunked = record {
      gathered = gathered-now chunks.run cloud.chunked.gathered waiting;
      some = cloud.chunked.some;
      groups = cloud.chunked.groups;
      few = cloud.chunked.few;
      limit = cloud.chunked.limit;
      most = cloud.chunked.most;
      within = cloud.chunked.within;
      entries = cloud.chunked.entries;
      room = cloud.chunked.room;
    };
    few = cloud.few;
    begun = cloud.begun;
  }

  -- there is room for them
  pub room-left : (chunks : Chunks) (count : ℕ) (section : Option Begun) → in_block (cloud_of fields chunks count section false) f + length values ≤ 1024 → length w.items + length values ≤ 1031
  room-left chunks count section h = let size = ap (λ (xs : List Value). length xs) items-at in omega (arith, size, h)

-- ---- the records that a cloud stands for

first-set : (r : ℕ) (columns : List (List Value)) (f : ℕ) (values : List Value) → r ≤ length (slice_index_or columns f []) → f < length columns → first_records r (slice_set columns f (slice_index_or columns f [] ++ values)) ≡ first_records r columns
unfolding first_records
first-set r [] f values h there = absurd (omega arith)
first-set r (c ∷ columns) zero values h there = ap (λ (xs : List Value). xs ∷ map (λ (column : List Value). take r column) columns) (take-append-le r c values h)
first-set r (c ∷ columns) (suc f) values h there = ap (λ (xs : List (List Value)). take r c ∷ xs) (first-set r columns f values h (omega (arith, there)))

-- each column has as many items as are left
long-left : (kinds : List ItemKind) (count e r f : ℕ) (columns cs : List (List Value)) → AreColumns kinds count cs → first_records r columns ≡ later_records e cs → f < length columns → count - e ≤ length (slice_index_or columns f [])
unfolding first_records later_records
long-left kinds count e r f [] cs are is there = absurd (omega arith)
long-left [] count e r f (c ∷ columns) [] are is there = absurd (apart (ap (λ (xs : List (List Value)). length xs) is))
  where
    apart : suc (length (map (λ (column : List Value). take r column) columns)) ≡ 0 → ⊥
    apart e = absurd (omega arith)
long-left [] count e r f (c ∷ columns) (x ∷ cs) are is there = absurd are
long-left (kind ∷ kinds) count e r f (c ∷ columns) [] are is there = absurd are
long-left (kind ∷ kinds) count e r zero (c ∷ columns) (x ∷ cs) are is there =
    let size = ap (λ (xs : List (List Value)). length (slice_index_or xs 0 [])) is in
    let front = length-take r c in
    let back = length-drop e x in
    omega (arith, size, front, back, are.0)
long-left (kind ∷ kinds) count e r (suc f) (c ∷ columns) (x ∷ cs) are is there = long-left kinds count e r f columns cs are.2 (tails is) (omega (arith, there))
  where
    tails : (take r c ∷ map (λ (column : List Value). take r column) columns) ≡ (drop e x ∷ map (λ (column : List Value). drop e column) cs) → map (λ (column : List Value). take r column) columns ≡ map (λ (column : List Value). drop e column) cs
    tails h = ap (λ (xs : List (List Value)). drop 1 xs) h

put-same : {T : Type 0} (c : Cloud) (columns : List (List Value)) (before : Option (List ℕ)) (start : ℕ) (cs : List (List Value)) (out : Writing T) (section : Option Begun) → IsPut before start cs c out section → IsPut before start cs (record c { pending = columns }) out section
put-same c columns before start cs out None put = record { count = put.count; run = put.run; begun = put.begun; entries = put.entries; bytes = put.bytes; size = put.size; held = put.held }
put-same c columns before start cs out (Some s) put = put

-- the calls that take items leave the records as they are
pub items_stand : {T : Type 0} (c : Cloud) (f : ℕ) (values : List Value) (before : Option (List ℕ)) (start : ℕ) (cs : List (List Value)) (out : Writing T) → f < length c.pending → Stands before start cs c out → Stands before start cs (with_items c f values) out
items_stand c f values before start cs out there stands =
    let long = long-left c.kinds c.count (in_groups c.count) (c.count % 8) f c.pending cs stands.columns stands.left there in
    record {
      long = stands.long;
      columns = stands.columns;
      left = first-set (c.count % 8) c.pending f values (omega (arith, long)) there ∙ stands.left;
      written = put-same c (slice_set c.pending f (waiting_of c f ++ values)) before start cs out c.section stands.written;
    }

-- ---- a new cloud

no-columns : (kinds : List ItemKind) → AreColumns kinds 0 (map (λ (kind : ItemKind). []) kinds)
no-columns [] = tt
no-columns (kind ∷ kinds) = (refl, tt, no-columns kinds)

no-left : (kinds : List ItemKind) → first_records 0 (map (λ (kind : ItemKind). []) kinds) ≡ later_records 0 (map (λ (kind : ItemKind). []) kinds)
unfolding first_records later_records
no-left [] = refl
no-left (kind ∷ kinds) = ap (λ (xs : List (List Value)). [] ∷ xs) (no-left kinds)

pub new_stands : {T : Type 0} (kinds : List ItemKind) (n most : ℕ) (before : Option (List ℕ)) (start : ℕ) (out : Writing T) → IfSome before (λ b. length b ≡ start) → out.told_bytes ≡ before → out.size ≡ start → out.held ≡ None → Stands before start (map (λ (kind : ItemKind). []) kinds) (new_cloud kinds n most) out
new_stands kinds n most before start out long told size held = record {
  long = long;
  columns = no-columns kinds;
  left = no-left kinds;
  written = record { count = refl; run = refl; begun = refl; entries = refl; bytes = told; size = size; held = held };
}

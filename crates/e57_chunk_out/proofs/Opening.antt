-- A new cloud, of fields of which nothing waits.
use Rattle.std.proofs.Common.{◌≡◌, ◌⊎◌, ℕ, zero, suc, ◌+◌, ◌*◌, ◌/◌, ◌%◌, ◌^◌, ◌<◌, ◌≤◌, min, false, List, [], ◌∷◌, ◌++◌, length, map, take, get_or, None, inl, inr, refl, sym, ap, subst, ◌∙◌, arith}
use Rattle.std.specs.List.{AllByRecursion}
use Rattle.std.proofs.lemmas.List.{length-map, take_all}
use Rattle.e57_layout.specs.Values.{item_kind, kind_width, strings, ItemKind, Value}
use Rattle.e57_layout.specs.declared.field.FieldKind.{FieldKind}
use Rattle.e57_layout.specs.declared.field.FieldKind.TheVariants.{Int, Scaled, Bits32, Bits64, Text}
use Rattle.e57_layout.proofs.Laws.Widths.{width-le}
use Rattle.e57_chunk_out.specs.Waiting.{Waiting, IsWaiting, IsNew}
use Rattle.e57_chunk_out.specs.Grouping.{kinds_of, columns_of, IsFresh}
use Rattle.e57_chunk_out.specs.Going.{stream_limit, HasRuns}
use Rattle.e57_chunk_out.specs.Turns.{chunks_begun}
use Rattle.e57_chunk_out.specs.Clouds.{cloud_of, IsCloud, IsEmptyField}
use Rattle.e57_chunk_out.specs.CloudCalls.{new_cloud, IsChunkLength}
use Rattle.e57_chunk_out.specs.declared.turn.Chunks.{Chunks}
use Rattle.e57_index_out.specs.EntryList.{EntryList}
use Rattle.e57_chunk_out.proofs.Begun.{begun-whole, begun-ceil}

kind-most : (kind : FieldKind) → kind_width (item_kind kind) ≤ 64
kind-most (Int low high) = width-le low high
kind-most (Scaled low high scale offset) = width-le low high
kind-most Bits32 = omega arith
kind-most Bits64 = omega arith
kind-most Text = omega arith

-- a field that was just made
pub new_is_empty : (kind : FieldKind) (most bytes : ℕ) (w : Waiting) → bytes ≡ min stream_limit (8 * most) → IsNew (item_kind kind) bytes w → IsWaiting w → IsEmptyField most w
new_is_empty kind most bytes w room new waiting = record { waiting = waiting; items = new.items; stream = new.stream; runs = runs-of new.room }
  where
    runs-of : (w.kind ≡ strings) ⊎ (w.room ≡ bytes) → HasRuns 0 most w
    runs-of (inl e) = inl e
    runs-of (inr e) =
        let none : length w.stream ≡ 0 = ap (λ (s : List ℕ). length s) new.stream in
        inr (record {
          width = subst (λ (k : ItemKind). kind_width k ≤ 64) (sym new.kind) (kind-most kind);
          few = omega (arith, none);
          room = e ∙ room;
        })

-- nothing waits
pub no_items : (most : ℕ) (fields : List Waiting) → AllByRecursion (IsEmptyField most) fields → columns_of fields ≡ map (λ (kind : ItemKind). []) (kinds_of fields)
no_items most [] h = refl
no_items most (w ∷ fields) h = ap (λ (c : List Value). c ∷ columns_of fields) h.0.items ∙ ap (λ (cs : List (List Value)). [] ∷ cs) (no_items most fields h.1)

empty-waiting : (most : ℕ) (fields : List Waiting) → AllByRecursion (IsEmptyField most) fields → AllByRecursion IsWaiting fields
empty-waiting most [] h = tt
empty-waiting most (w ∷ fields) h = (h.0.waiting, empty-waiting most fields h.1)

empty-fresh : (most : ℕ) (fields : List Waiting) → AllByRecursion (IsEmptyField most) fields → AllByRecursion IsFresh fields
empty-fresh most [] h = tt
empty-fresh most (w ∷ fields) h = (h.0.stream, empty-fresh most fields h.1)

empty-runs : (most : ℕ) (fields : List Waiting) → AllByRecursion (IsEmptyField most) fields → AllByRecursion (HasRuns 0 most) fields
empty-runs most [] h = tt
empty-runs most (w ∷ fields) h = (h.0.runs, empty-runs most fields h.1)

-- the chunks of a new cloud
abbrev new_chunks : ℕ → ℕ → ℕ → EntryList → Chunks
new_chunks n at_most most index = record { records = n; at_most = at_most; run = record { most = most; records = 0; is_begun = false }; index = index }

pub starts : (fields : List Waiting) (n at_most most room : ℕ) (index : EntryList) → 0 < length fields → length fields ≤ 512 → AllByRecursion (IsEmptyField (min n at_most)) fields → IsChunkLength n → at_most ≤ 2 ^ 40 → most ≡ min n at_most → room ≡ at_most / n + min 1 (at_most % n) → index ≡ record { entries = []; room = room } → IsCloud fields (new_chunks n at_most most index) 0 None
starts fields n at_most most room index some few empty chunk limit is ceil new = record {
  chunked = record {
    gathered = record {
      some = some;
      few = few;
      waiting = empty-waiting (min n at_most) fields empty;
      fresh = λ none. empty-fresh (min n at_most) fields empty;
      fits = λ (has : 0 < 0). absurd (omega (arith, has));
      rooms = subst (λ k. AllByRecursion (HasRuns 0 k) fields) (sym is) (empty-runs (min n at_most) fields empty);
    };
    some = chunk.some;
    groups = chunk.groups;
    few = chunk.most;
    limit = limit;
    most = is;
    within = omega arith;
    entries = ap (λ (i : EntryList). length i.entries) new ∙ sym (ap (λ k. chunks_begun n k) (times n) ∙ begun-whole n 0 chunk.some);
    room = ap (λ (i : EntryList). i.room) new ∙ ceil ∙ begun-ceil n at_most chunk.some;
  };
  few = omega arith;
  begun = refl;
}
  where
    times : (k : ℕ) → 0 ≡ k * 0
    times k = omega arith

pub is_new : (fields : List Waiting) (n at_most most room : ℕ) (index : EntryList) → AllByRecursion (IsEmptyField (min n at_most)) fields → index ≡ record { entries = []; room = room } → cloud_of fields (new_chunks n at_most most index) 0 None false ≡ new_cloud (kinds_of fields) n at_most
is_new fields n at_most most room index empty new =
    ap (λ (i : EntryList). cloud_of fields (new_chunks n at_most most i) 0 None false) new
    ∙ ap (λ (cs : List (List Value)). record (new_cloud (kinds_of fields) n at_most) { pending = cs }) (no_items (min n at_most) fields empty)

-- ---- field by field

-- fields of these kinds, of which nothing waits
abbrev pub OpensSoFar : ℕ → List ItemKind → List Waiting → Type 0
OpensSoFar most kinds outs = AllByRecursion (IsEmptyField most) outs × (kinds_of outs ≡ kinds)

all-more : (most : ℕ) (outs : List Waiting) (w : Waiting) → AllByRecursion (IsEmptyField most) outs → IsEmptyField most w → AllByRecursion (IsEmptyField most) (outs ++ w ∷ [])
all-more most [] w h g = (g, tt)
all-more most (o ∷ outs) w h g = (h.0, all-more most outs w h.1 g)

kinds-more : (outs : List Waiting) (w : Waiting) → kinds_of (outs ++ w ∷ []) ≡ kinds_of outs ++ w.kind ∷ []
kinds-more [] w = refl
kinds-more (o ∷ outs) w = ap (λ (ks : List ItemKind). o.kind ∷ ks) (kinds-more outs w)

take-next : {A : Type 0} (g : A → ItemKind) (xs : List A) (k : ℕ) (x : A) → k < length xs → x ≡ get_or xs k x → map g (take k xs) ++ g x ∷ [] ≡ map g (take (suc k) xs)
take-next g [] k x h is = absurd (omega arith)
take-next g (y ∷ xs) zero x h is = ap (λ z. g z ∷ []) is
take-next g (y ∷ xs) (suc k) x h is = ap (λ (ks : List ItemKind). g y ∷ ks) (take-next g xs k x (omega (arith, h)) is)

pub opens_more : {A : Type 0} (g : A → ItemKind) (xs : List A) (k : ℕ) (x : A) (most : ℕ) (outs : List Waiting) (w : Waiting) → k < length xs → x ≡ get_or xs k x → w.kind ≡ g x → IsEmptyField most w → OpensSoFar most (map g (take k xs)) outs → OpensSoFar most (map g (take (k + 1) xs)) (outs ++ w ∷ [])
opens_more g xs k x most outs w there is kind empty so =
    let next : suc k ≡ k + 1 = omega arith in (
      all-more most outs w so.0 empty,
      kinds-more outs w ∙ ap (λ (ks : List ItemKind). ks ++ w.kind ∷ []) so.1 ∙ ap (λ (n : ItemKind). map g (take k xs) ++ n ∷ []) kind ∙ take-next g xs k x there is ∙ ap (λ n. map g (take n xs)) next,
    )

pub opens_all : {A : Type 0} (g : A → ItemKind) (xs : List A) (k most : ℕ) (outs : List Waiting) → length xs ≤ k → OpensSoFar most (map g (take k xs)) outs → kinds_of outs ≡ map g xs
opens_all g xs k most outs all so = so.1 ∙ ap (map g) (take_all k xs all)

pub opens_count : {A : Type 0} (g : A → ItemKind) (xs : List A) (k most : ℕ) (outs : List Waiting) → length xs ≤ k → OpensSoFar most (map g (take k xs)) outs → length outs ≡ length xs
opens_count g xs k most outs all so =
    let whole = ap (λ (ks : List ItemKind). length ks) (opens_all g xs k most outs all so) in
    sym (length-map outs (λ (w : Waiting). w.kind)) ∙ whole ∙ length-map xs g

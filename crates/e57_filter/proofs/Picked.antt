-- The block of the records that are marked.
use Rattle.std.proofs.Common.{◌≡◌, ℕ, zero, suc, ◌<◌, false, Bool, List, [], ◌∷◌, length, map, take, sym, subst, ap, ◌∙◌}
use Rattle.std.specs.List.{AllByRecursion}
use Rattle.std.proofs.lemmas.List.{take-map}
use Rattle.e57_base.specs.Target.{TargetView}
use Rattle.e57_layout.specs.Values.{ItemKind, Value}
use Rattle.e57_layout.specs.Items.{AreColumns}
use Rattle.e57_layout.specs.Packing.{join_columns}
use Rattle.e57_page_out.specs.Writing.{Writing, IsBeingWritten}
use Rattle.e57_blocks.specs.Block.{Block}
use Rattle.e57_blocks.specs.Runs.{held_values}
use Rattle.e57_chunk_out.specs.CloudCalls.{IsBetween}
use Rattle.e57_chunk_out.specs.Standing.{Cloud}
use Rattle.e57_copy.specs.Adding.{block_kinds, held_columns, with_columns, AddsRecords}
use Rattle.e57_copy.specs.Items.{AreAlike}
use Rattle.e57_copy.proofs.Adding.{adds_none, some_kinds}
use Rattle.e57_plain.specs.Kept.{passing}
use Rattle.e57_filter.specs.Marking.{mark_count, picked, AreMarks}
use Rattle.e57_filter.proofs.Picking.{alike_all, none_are, picked_columns}
use Rattle.e57_filter.proofs.Passing.{picked-passing}
use Rattle.e57_copy.proofs.Columns.{no_records}
use Rattle.e57_filter.proofs.Handed.{join_none_of}

-- none are marked
pub adds_nothing : {T : Type 0} (view : T → TargetView) (c new : Cloud) (out : Writing T) (columns : List (List Value)) (number : ℕ) → AreColumns c.kinds number columns → number ≡ 0 → length c.pending ≡ length c.kinds
    → new ≡ with_columns c columns → IsBetween c → c.is_spent ≡ false → IsBeingWritten view out → AddsRecords view number columns c out new out
adds_nothing view c new out columns number are none many is between unspent state =
    let empty : columns ≡ no_records c.kinds = none_are c.kinds columns (subst (λ (k : ℕ). AreColumns c.kinds k columns) none are) in
    let same : c ≡ new =
    sym (is ∙ ap (λ (waiting : List (List Value)). record c { pending = waiting }) (ap (λ (cs : List (List Value)). join_columns c.pending cs) empty ∙ join_none_of c.kinds c.pending many)) in
    subst (λ (x : Cloud). AddsRecords view number columns c out x out) same
    (subst (λ (cs : List (List Value)). AddsRecords view number cs c out c out) (sym empty)
    (subst (λ (k : ℕ). AddsRecords view k (no_records c.kinds) c out c out) (sym none) (adds_none view c out between unspent state)))

-- ---- the first blocks

pub fit_first : (k : ℕ) (blocks : List Block) (i n : ℕ) → AreColumns (block_kinds blocks) n (held_columns blocks i n) → AreColumns (block_kinds (take k blocks)) n (held_columns (take k blocks) i n)
fit_first zero blocks i n fit = tt
fit_first (suc k) [] i n fit = tt
fit_first (suc k) (b ∷ blocks) i n fit = (fit.0, fit.1, fit_first k blocks i n fit.2)

pub all_first : {X : Type 0} (P : X → Type 0) (k : ℕ) (xs : List X) → AllByRecursion P xs → AllByRecursion P (take k xs)
all_first P zero xs all = tt
all_first P (suc k) [] all = tt
all_first P (suc k) (x ∷ xs) all = (all.0, all_first P k xs all.1)

-- what is picked is what passes
pub picked_passes : (k : ℕ) (blocks : List Block) (i n : ℕ) (pass : ℕ → Bool) (flags : List Bool) → AreColumns (block_kinds blocks) n (held_columns blocks i n) → AreMarks n pass flags
    → picked flags (held_columns (take k blocks) i n) ≡ map (passing pass 0) (take k (held_columns blocks i n))
picked_passes k blocks i n pass flags fit marks =
    picked-passing (block_kinds (take k blocks)) n pass flags (held_columns (take k blocks) i n) (fit_first k blocks i n fit) marks
    ∙ ap (map (passing pass 0)) (sym (take-map (λ (b : Block). held_values b i n) k blocks))

-- those that are marked, as columns of the cloud
pub picked_are : (c : Cloud) (blocks : List Block) (i n : ℕ) (flags : List Bool) → c.kinds ≡ block_kinds blocks → length flags ≡ n → AreColumns (block_kinds blocks) n (held_columns blocks i n)
    → AreColumns c.kinds (mark_count flags) (picked flags (held_columns blocks i n))
picked_are c blocks i n flags kinds long fit =
    subst (λ (ks : List ItemKind). AreColumns ks (mark_count flags) (picked flags (held_columns blocks i n))) (sym kinds) (picked_columns (block_kinds blocks) n flags (held_columns blocks i n) long fit)

-- there is a field
pub some_fields : (c : Cloud) (blocks : List Block) → c.kinds ≡ block_kinds blocks → 0 < length blocks → 0 < length c.kinds
some_fields c blocks kinds some = some_kinds c blocks (subst (AreAlike (block_kinds blocks)) (sym kinds) (alike_all (block_kinds blocks))) some

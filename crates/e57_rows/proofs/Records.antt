-- The row of a record that all blocks hold, and that of one with a fault; the rows of records one after another.
use Rattle.std.specs.Prelude.{◌≡◌, ℕ, zero, suc, ◌+◌, ◌-◌, ◌<◌, List, [], ◌∷◌, ◌++◌, map, Option, Some, None, Result, Ok, Err}
use Rattle.std.specs.List.{AllByRecursion}
use Rattle.std.proofs.Common.{refl, sym, subst, ap, ◌∙◌, arith, add-zero, zero-add, append_assoc}
use Rattle.std.proofs.lemmas.List.{append-nil}
use Rattle.std.proofs.lemmas.Option.{same_Some}
use Rattle.e57_base.specs.declared.fault.Fault.{Fault}
use Rattle.e57_layout.specs.Values.{Value}
use Rattle.e57_layout.specs.declared.field.Fixed.{Fixed}
use Rattle.e57_layout.specs.declared.section.Section.{Section}
use Rattle.e57_cloud.specs.Cloud.{Leaf}
use Rattle.e57_cloud.specs.PathItem.{and_then, item_of}
use Rattle.e57_blocks.specs.Block.{Block, held_item, Holds}
use Rattle.e57_rows.specs.Cells.{cell, csv_row}
use Rattle.e57_rows.specs.Rows.{cells_of, shown, shown_row, section_row, rows_text, rows_fault, text_before, fault_before as rows_before}
use Rattle.e57_blocks.specs.Runs.{HasRecords}
use Rattle.e57_blocks.specs.Fields.{field_of, IsOf, AreBlocks, fault_before, first_fault, record_fault}
use Rattle.e57_rows.specs.Blocks.{cell_at, held_row, held_rows}
use Rattle.e57_base.proofs.Lists.{all_map}
use Rattle.e57_blocks.proofs.Faults.{item_held}

-- ---- one record

-- what is found of a field
abbrev pub looks : List ℕ → Section → Option Fixed → ℕ → ℕ → Leaf → Result Value Fault
looks file s fixed i f leaf = item_of file s fixed f leaf i

-- what is found of a field, as it is shown
abbrev pub shown_looks : (ℕ → Value → Value) → List ℕ → Section → Option Fixed → ℕ → ℕ → Leaf → Result Value Fault
shown_looks show file s fixed i f leaf = shown show f (item_of file s fixed f leaf i)

cells_first : (item : ℕ → Leaf → Result Value Fault) (f : ℕ) (leaf : Leaf) (asked : List (ℕ × Leaf)) (v : Value) → item f leaf ≡ Ok v → cells_of item ((f, leaf) ∷ asked) ≡ and_then (cells_of item asked) (λ cells. Ok (cell leaf.kind v ∷ cells))
unfolding cells_of
cells_first item f leaf asked v is = ap (λ (r : Result Value Fault). and_then r (λ v. and_then (cells_of item asked) (λ cells. Ok (cell leaf.kind v ∷ cells)))) is

cells_held : (show : ℕ → Value → Value) (file : List ℕ) (s : Section) (fixed : Option Fixed) (i : ℕ) (blocks : List Block) → AllByRecursion (IsOf s fixed) blocks → AllByRecursion (Holds file) blocks → AllByRecursion (HasRecords i 1) blocks
    → cells_of (shown_looks show file s fixed i) (map field_of blocks) ≡ Ok (map (cell_at show i) blocks)
unfolding cells_of
cells_held show file s fixed i [] are hold have = refl
cells_held show file s fixed i (b ∷ blocks) are hold have =
    cells_first (shown_looks show file s fixed i) (field_of b).0 (field_of b).1 (map field_of blocks) (show (field_of b).0 (held_item b (i - b.first))) (ap (shown show (field_of b).0) (item_held file s fixed b i are.0 hold.0 have.0))
    ∙ ap (λ (r : Result (List (List ℕ)) Fault). and_then r (λ cells. Ok (cell_at show i b ∷ cells))) (cells_held show file s fixed i blocks are.1 hold.1 have.1)

-- the first of these fields that has a fault
cells_wrong : (item : ℕ → Leaf → Result Value Fault) (asked : List (ℕ × Leaf)) (found : Fault) → first_fault item asked ≡ Some found → cells_of item asked ≡ Err found
unfolding first_fault cells_of
cells_wrong item [] found is = absurd cc
cells_wrong item ((f, leaf) ∷ asked) found is = by_item (item f leaf) is (λ rest. cells_wrong item asked found rest)
  where
    by_item : (r : Result Value Fault) → fault_before r (first_fault item asked) ≡ Some found → (first_fault item asked ≡ Some found → cells_of item asked ≡ Err found) → and_then r (λ v. and_then (cells_of item asked) (λ cells. Ok (cell leaf.kind v ∷ cells))) ≡ Err found
    by_item (Ok v) is later = ap (λ (r : Result (List (List ℕ)) Fault). and_then r (λ cells. Ok (cell leaf.kind v ∷ cells))) (later is)
    by_item (Err wrong) is later = ap Err (same_Some wrong found is)

row_held : (show : ℕ → Value → Value) (file : List ℕ) (s : Section) (fixed : Option Fixed) (i : ℕ) (blocks : List Block) → AllByRecursion (IsOf s fixed) blocks → AllByRecursion (Holds file) blocks → AllByRecursion (HasRecords i 1) blocks
    → shown_row show file s fixed (map field_of blocks) i ≡ Ok (held_row show blocks i)
unfolding shown_row
row_held show file s fixed i blocks are hold have = ap (λ (r : Result (List (List ℕ)) Fault). and_then r (λ cells. Ok (csv_row cells))) (cells_held show file s fixed i blocks are hold have)

-- what is shown has the fault of what is found
cells_lost : (show : ℕ → Value → Value) (item : ℕ → Leaf → Result Value Fault) (asked : List (ℕ × Leaf)) (found : Fault) → cells_of item asked ≡ Err found → cells_of (λ f leaf. shown show f (item f leaf)) asked ≡ Err found
unfolding cells_of
cells_lost show item [] found is = absurd cc
cells_lost show item ((f, leaf) ∷ asked) found is = by_item (item f leaf) (cells_of item asked) refl (cells_lost show item asked found) is
  where
    by_item : (r : Result Value Fault) (rest : Result (List (List ℕ)) Fault) → cells_of item asked ≡ rest → (cells_of item asked ≡ Err found → cells_of (λ f leaf. shown show f (item f leaf)) asked ≡ Err found)
        → and_then r (λ v. and_then rest (λ cells. Ok (cell leaf.kind v ∷ cells))) ≡ Err found
        → and_then (shown show f r) (λ v. and_then (cells_of (λ f leaf. shown show f (item f leaf)) asked) (λ cells. Ok (cell leaf.kind v ∷ cells))) ≡ Err found
    by_item (Err e) rest at_rest later is = cc
    by_item (Ok v) (Ok cells) at_rest later is = absurd cc
    by_item (Ok v) (Err e) at_rest later is = rw (later (at_rest ∙ cc)) refl

pub row_lost : (show : ℕ → Value → Value) (file : List ℕ) (s : Section) (fixed : Option Fixed) (asked : List (ℕ × Leaf)) (i : ℕ) (found : Fault) → section_row file s fixed asked i ≡ Err found → shown_row show file s fixed asked i ≡ Err found
unfolding section_row shown_row
row_lost show file s fixed asked i found is = by_cells (cells_of (looks file s fixed i) asked) refl is
  where
    by_cells : (r : Result (List (List ℕ)) Fault) → cells_of (looks file s fixed i) asked ≡ r → and_then r (λ cells. Ok (csv_row cells)) ≡ Err found
        → and_then (cells_of (shown_looks show file s fixed i) asked) (λ cells. Ok (csv_row cells)) ≡ Err found
    by_cells (Ok cells) at_cells is = absurd cc
    by_cells (Err e) at_cells is = rw (cells_lost show (looks file s fixed i) asked found (at_cells ∙ cc)) refl

pub row_wrong : (file : List ℕ) (s : Section) (fixed : Option Fixed) (asked : List (ℕ × Leaf)) (i : ℕ) (found : Fault) → record_fault file s fixed asked i ≡ Some found → section_row file s fixed asked i ≡ Err found
unfolding section_row
row_wrong file s fixed asked i found is = ap (λ (r : Result (List (List ℕ)) Fault). and_then r (λ cells. Ok (csv_row cells))) (cells_wrong (looks file s fixed i) asked found is)

-- ---- records one after another

text_first : (row : ℕ → Result (List ℕ) Fault) (i n : ℕ) (text : List ℕ) → row i ≡ Ok text → rows_text row i (suc n) ≡ text ++ rows_text row (i + 1) n
unfolding rows_text
text_first row i n text is = ap (λ (r : Result (List ℕ) Fault). text_before r (rows_text row (i + 1) n)) is

fault_first : (row : ℕ → Result (List ℕ) Fault) (i n : ℕ) (text : List ℕ) → row i ≡ Ok text → rows_fault row i (suc n) ≡ rows_fault row (i + 1) n
unfolding rows_fault
fault_first row i n text is = ap (λ (r : Result (List ℕ) Fault). rows_before r (rows_fault row (i + 1) n)) is

text_stop : (row : ℕ → Result (List ℕ) Fault) (i n : ℕ) (found : Fault) → row i ≡ Err found → rows_text row i (suc n) ≡ []
unfolding rows_text
text_stop row i n found is = ap (λ (r : Result (List ℕ) Fault). text_before r (rows_text row (i + 1) n)) is

fault_stop : (row : ℕ → Result (List ℕ) Fault) (i n : ℕ) (found : Fault) → row i ≡ Err found → rows_fault row i (suc n) ≡ Some found
unfolding rows_fault
fault_stop row i n found is = ap (λ (r : Result (List ℕ) Fault). rows_before r (rows_fault row (i + 1) n)) is

-- n rows of records without a fault, from record i on, and their text
pub record AreRows (row : ℕ → Result (List ℕ) Fault) (i n : ℕ) (text : List ℕ) : Type 0 where
  pub sound : rows_fault row i n ≡ None
  pub text_is : text ≡ rows_text row i n

rows_held : (show : ℕ → Value → Value) (row : ℕ → Result (List ℕ) Fault) (blocks : List Block) (i n : ℕ) → ((k : ℕ) → k < n → row (i + k) ≡ Ok (held_row show blocks (i + k))) → AreRows row i n (held_rows show blocks i n)
unfolding held_rows rows_text rows_fault
rows_held show row blocks i zero each = record { sound = refl; text_is = refl }
rows_held show row blocks i (suc n) each =
    let here = rw add-zero at (each 0 (omega arith)) in
    let rest = rows_held show row blocks (i + 1) n (λ k below. let place : i + (k + 1) ≡ i + 1 + k = omega arith in subst (λ (j : ℕ). row j ≡ Ok (held_row show blocks j)) place (each (k + 1) (omega (arith, below)))) in
    record {
      sound = fault_first row i n (held_row show blocks i) here ∙ rest.sound;
      text_is = ap (λ (t : List ℕ). held_row show blocks i ++ t) rest.text_is ∙ sym (text_first row i n (held_row show blocks i) here);
    }

-- the rows of the records that all blocks hold
pub rows_sound : (show : ℕ → Value → Value) (file : List ℕ) (s : Section) (fixed : Option Fixed) (asked : List (ℕ × Leaf)) (blocks : List Block) (i n : ℕ) → AreBlocks s fixed asked blocks → AllByRecursion (Holds file) blocks → AllByRecursion (HasRecords i n) blocks → AreRows (shown_row show file s fixed asked) i n (held_rows show blocks i n)
rows_sound show file s fixed asked blocks i n are hold have =
    subst (λ (fields : List (ℕ × Leaf)). AreRows (shown_row show file s fixed fields) i n (held_rows show blocks i n)) are.fields
    (rows_held show (shown_row show file s fixed (map field_of blocks)) blocks i n
    (λ k below. row_held show file s fixed (i + k) blocks are.all hold
    (all_map (HasRecords i n) (HasRecords (i + k) 1) blocks (λ b has. let low = has.0 in let high = has.1 in (omega (arith, low), omega (arith, high, below))) have)))

-- what follows n rows without a fault, with their text
pub record Follow (row : ℕ → Result (List ℕ) Fault) (i n m : ℕ) (text : List ℕ) : Type 0 where
  pub faults : rows_fault row i (n + m) ≡ rows_fault row (i + n) m
  pub texts : rows_text row i (n + m) ≡ text ++ rows_text row (i + n) m

follow_first : (row : ℕ → Result (List ℕ) Fault) (i n m : ℕ) (text : List ℕ) (r : Result (List ℕ) Fault) → row i ≡ r → AreRows row i (suc n) text → (AreRows row (i + 1) n (rows_text row (i + 1) n) → Follow row (i + 1) n m (rows_text row (i + 1) n)) → Follow row i (suc n) m text
follow_first row i n m text (Ok first) is rows on =
    let size : suc n + m ≡ suc (n + m) = omega arith in
    let place : i + suc n ≡ i + 1 + n = omega arith in
    let rest = on (record { sound = sym (fault_first row i n first is) ∙ rows.sound; text_is = refl }) in
    let whole : text ≡ first ++ rows_text row (i + 1) n = rows.text_is ∙ text_first row i n first is in
    record {
      faults = rw (size, place) (fault_first row i (n + m) first is ∙ rest.faults);
      texts = rw (size, place, whole) (text_first row i (n + m) first is ∙ ap (λ (t : List ℕ). first ++ t) rest.texts ∙ sym (append_assoc first (rows_text row (i + 1) n) (rows_text row (i + 1 + n) m)));
    }
follow_first row i n m text (Err found) is rows on = let never : Some found ≡ None = sym (fault_stop row i n found is) ∙ rows.sound in absurd cc

-- rows without a fault, and those behind them
pub rows_on : (row : ℕ → Result (List ℕ) Fault) (i n m : ℕ) (text : List ℕ) → AreRows row i n text → Follow row i n m text
unfolding rows_text
rows_on row i zero m text rows = record { faults = rw (zero-add, add-zero) refl; texts = rw (zero-add, add-zero, rows.text_is) refl }
rows_on row i (suc n) m text rows = follow_first row i n m text (row i) refl rows (λ rest. rows_on row (i + 1) n m (rows_text row (i + 1) n) rest)

pub rows_none : (row : ℕ → Result (List ℕ) Fault) (i : ℕ) → AreRows row i 0 []
unfolding rows_text rows_fault
rows_none row i = record { sound = refl; text_is = refl }

pub rows_both : (row : ℕ → Result (List ℕ) Fault) (i n m : ℕ) (first next : List ℕ) → AreRows row i n first → AreRows row (i + n) m next → AreRows row i (n + m) (first ++ next)
rows_both row i n m first next a b =
    let on = rows_on row i n m first a in
    record { sound = on.faults ∙ b.sound; text_is = ap (λ (t : List ℕ). first ++ t) b.text_is ∙ sym on.texts }

-- rows without a fault, and a record with one
pub rows_stop : (row : ℕ → Result (List ℕ) Fault) (i n m : ℕ) (text : List ℕ) (found : Fault) → AreRows row i n text → row (i + n) ≡ Err found → (rows_fault row i (n + suc m) ≡ Some found) × (text ≡ rows_text row i (n + suc m))
rows_stop row i n m text found rows wrong =
    let on = rows_on row i n (suc m) text rows in (
      on.faults ∙ fault_stop row (i + n) m found wrong,
      sym (append-nil text) ∙ ap (λ (t : List ℕ). text ++ t) (sym (text_stop row (i + n) m found wrong)) ∙ sym on.texts,
    )

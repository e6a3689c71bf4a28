-- The first fault among the items of a record.
use Rattle.std.specs.Prelude.{◌≡◌, ℕ, ◌+◌, ◌-◌, List, [], ◌∷◌, ◌++◌, map, Option, Some, Result, Ok, Err}
use Rattle.std.specs.List.{AllByRecursion}
use Rattle.std.proofs.Common.{sym, subst, ap, ◌∙◌, arith}
use Rattle.e57_base.specs.declared.fault.Fault.{Fault}
use Rattle.e57_layout.specs.Values.{Value}
use Rattle.e57_layout.specs.declared.field.Fixed.{Fixed}
use Rattle.e57_layout.specs.declared.section.Section.{Section}
use Rattle.e57_cloud.specs.Cloud.{Leaf}
use Rattle.e57_cloud.specs.PathItem.{item_of}
use Rattle.e57_column.specs.Column.{leaf_of, column_item}
use Rattle.e57_blocks.specs.Block.{Block, held_item, Holds}
use Rattle.e57_blocks.specs.Runs.{HasRecords}
use Rattle.e57_blocks.specs.Fields.{fault_before, first_fault, record_fault, field_of, IsOf}

-- the item of a field, as a column of the section has it
pub column_of : (file : List ℕ) (s : Section) (fixed : Option Fixed) (b : Block) (i : ℕ) → IsOf s fixed b → column_item file b.column i ≡ item_of file s fixed (field_of b).0 (field_of b).1 i
column_of file s fixed b i is =
    ap (λ (t : Section). item_of file t b.column.stream.fixed b.column.stream.field (leaf_of b.column) i) is.in_section
    ∙ ap (λ (x : Option Fixed). item_of file s x b.column.stream.field (leaf_of b.column) i) is.with_fixed

pub item_held : (file : List ℕ) (s : Section) (fixed : Option Fixed) (b : Block) (i : ℕ) → IsOf s fixed b → Holds file b → HasRecords i 1 b → item_of file s fixed (field_of b).0 (field_of b).1 i ≡ Ok (held_item b (i - b.first))
item_held file s fixed b i is holds has =
    let low = has.0 in
    let high = has.1 in
    let place : b.first + (i - b.first) ≡ i = omega (arith, low) in
    let item = holds.items (i - b.first) (omega (arith, low, high)) in
    sym (column_of file s fixed b i is) ∙ subst (λ (k : ℕ). column_item file b.column k ≡ Ok (held_item b (i - b.first))) place item

-- a field without a fault, and the others
fault_later : (item : ℕ → Leaf → Result Value Fault) (f : ℕ) (leaf : Leaf) (asked : List (ℕ × Leaf)) (v : Value) → item f leaf ≡ Ok v → first_fault item ((f, leaf) ∷ asked) ≡ first_fault item asked
unfolding first_fault
fault_later item f leaf asked v is = ap (λ (r : Result Value Fault). fault_before r (first_fault item asked)) is

fault_here : (item : ℕ → Leaf → Result Value Fault) (f : ℕ) (leaf : Leaf) (asked : List (ℕ × Leaf)) (found : Fault) → item f leaf ≡ Err found → first_fault item ((f, leaf) ∷ asked) ≡ Some found
unfolding first_fault
fault_here item f leaf asked found is = ap (λ (r : Result Value Fault). fault_before r (first_fault item asked)) is

-- the first blocks hold the record, and the next one has a fault
pub faults_stop : (file : List ℕ) (s : Section) (fixed : Option Fixed) (i : ℕ) (before : List Block) (b : Block) (rest : List (ℕ × Leaf)) (found : Fault) → AllByRecursion (IsOf s fixed) before → AllByRecursion (Holds file) before → AllByRecursion (HasRecords i 1) before → IsOf s fixed b
    → column_item file b.column i ≡ Err found → record_fault file s fixed (map field_of before ++ field_of b ∷ rest) i ≡ Some found
faults_stop file s fixed i [] b rest found are hold have is wrong = fault_here (λ f leaf. item_of file s fixed f leaf i) (field_of b).0 (field_of b).1 rest found (sym (column_of file s fixed b i is) ∙ wrong)
faults_stop file s fixed i (c ∷ before) b rest found are hold have is wrong =
    fault_later (λ f leaf. item_of file s fixed f leaf i) (field_of c).0 (field_of c).1 (map field_of before ++ field_of b ∷ rest) (held_item c (i - c.first)) (item_held file s fixed c i are.0 hold.0 have.0)
    ∙ faults_stop file s fixed i before b rest found are.1 hold.1 have.1 is wrong

-- The items of a file as columns.
use Rattle.std.proofs.Common.{◌≡◌, ℕ, zero, suc, ◌+◌, ◌-◌, ◌<◌, List, [], ◌∷◌, ◌++◌, length, map, refl, subst, arith, add-zero}
use Rattle.std.specs.Prelude.{Option, Result, Ok}
use Rattle.std.specs.List.{AllByRecursion, range_with_len}
use Rattle.e57_base.specs.declared.fault.Fault.{Fault}
use Rattle.e57_layout.specs.Values.{ItemKind, Value}
use Rattle.e57_layout.specs.Packing.{join_columns}
use Rattle.e57_layout.specs.declared.field.Fixed.{Fixed}
use Rattle.e57_layout.specs.declared.section.Section.{Section}
use Rattle.e57_cloud.specs.Cloud.{Leaf}
use Rattle.e57_cloud.specs.PathItem.{item_of}
use Rattle.e57_blocks.specs.Block.{Block, held_item, Holds}
use Rattle.e57_blocks.specs.Fields.{field_of, IsOf, AreBlocks}
use Rattle.e57_blocks.specs.Runs.{HasRecords}
use Rattle.e57_blocks.proofs.Faults.{item_held}
use Rattle.e57_copy.specs.Found.{asked_kinds, AreFound, AreFoundColumns}
use Rattle.e57_copy.specs.Adding.{block_kinds, held_columns}

-- ---- kinds

pub kinds_asked : (blocks : List Block) → block_kinds blocks ≡ asked_kinds (map field_of blocks)
kinds_asked [] = refl
kinds_asked (b ∷ blocks) = rw (kinds_asked blocks) refl

-- ---- more items

pub found_both : (item : ℕ → Result Value Fault) (i n : ℕ) (xs ys : List Value) → length xs ≡ n → AreFound item i xs → AreFound item (i + n) ys → AreFound item i (xs ++ ys)
unfolding AreFound
found_both item i n [] ys size first next = let none : i + n ≡ i = omega arith in subst (λ (k : ℕ). AreFound item k ys) none next
found_both item i n (x ∷ xs) ys size first next =
    let place : i + n ≡ i + 1 + (n - 1) = omega arith in
    (first.0, found_both item (i + 1) (n - 1) xs ys (omega arith) first.1 (subst (λ (k : ℕ). AreFound item k ys) place next))

pub found_columns_both : (file : List ℕ) (s : Section) (fixed : Option Fixed) (asked : List (ℕ × Leaf)) (i n : ℕ) (xs ys : List (List Value)) → AllByRecursion (λ (column : List Value). length column ≡ n) xs
    → AreFoundColumns file s fixed asked i xs → AreFoundColumns file s fixed asked (i + n) ys → AreFoundColumns file s fixed asked i (join_columns xs ys)
unfolding AreFoundColumns join_columns
found_columns_both file s fixed [] i n [] [] long first next = tt
found_columns_both file s fixed [] i n [] (y ∷ ys) long first next = absurd next
found_columns_both file s fixed [] i n (x ∷ xs) ys long first next = absurd first
found_columns_both file s fixed (field ∷ asked) i n [] ys long first next = absurd first
found_columns_both file s fixed (field ∷ asked) i n (x ∷ xs) [] long first next = absurd next
found_columns_both file s fixed (field ∷ asked) i n (x ∷ xs) (y ∷ ys) long first next =
    (found_both (item_of file s fixed field.0 field.1) i n x y long.0 first.0 next.0, found_columns_both file s fixed asked i n xs ys long.1 first.1 next.1)

pub found_none : (file : List ℕ) (s : Section) (fixed : Option Fixed) (asked : List (ℕ × Leaf)) (i : ℕ) → AreFoundColumns file s fixed asked i (map (λ (kind : ItemKind). []) (asked_kinds asked))
unfolding AreFoundColumns AreFound
found_none file s fixed [] i = tt
found_none file s fixed (field ∷ asked) i = (tt, found_none file s fixed asked i)

-- ---- items that blocks hold

found_each : (item : ℕ → Result Value Fault) (value : ℕ → Value) (i k n : ℕ) → ((j : ℕ) → j < n → item (i + j) ≡ Ok (value (k + j))) → AreFound item i (map value (range_with_len k n))
unfolding AreFound
found_each item value i k zero each = tt
found_each item value i k (suc n) each =
    let here = rw (add-zero, add-zero) at (each 0 (omega arith)) in (
      here,
      found_each item value (i + 1) (k + 1) n (λ j below.
          let at_item : i + (j + 1) ≡ i + 1 + j = omega arith in
          let at_value : k + (j + 1) ≡ k + 1 + j = omega arith in
          rw (at_item, at_value) at (each (j + 1) (omega (arith, below)))),
    )

pub held_found : (file : List ℕ) (s : Section) (fixed : Option Fixed) (blocks : List Block) (i n : ℕ) → AllByRecursion (IsOf s fixed) blocks → AllByRecursion (Holds file) blocks → AllByRecursion (HasRecords i n) blocks
    → AreFoundColumns file s fixed (map field_of blocks) i (held_columns blocks i n)
unfolding AreFoundColumns
held_found file s fixed [] i n are hold have = tt
held_found file s fixed (b ∷ blocks) i n are hold have =
    let low = have.0.0 in
    let high = have.0.1 in (
      found_each (item_of file s fixed (field_of b).0 (field_of b).1) (held_item b) i (i - b.first) n (λ j below.
          let at_item : i + j - b.first ≡ i - b.first + j = omega (arith, low) in
          subst (λ (k : ℕ). item_of file s fixed (field_of b).0 (field_of b).1 (i + j) ≡ Ok (held_item b k)) at_item
          (item_held file s fixed b (i + j) are.0 hold.0 (omega (arith, low), omega (arith, high, below)))),
      held_found file s fixed blocks i n are.1 hold.1 have.1,
    )

-- the columns of the records that the blocks of a slice hold
pub slice_found : (file : List ℕ) (s : Section) (fixed : Option Fixed) (asked : List (ℕ × Leaf)) (blocks : List Block) (i n : ℕ) → AreBlocks s fixed asked blocks → AllByRecursion (Holds file) blocks → AllByRecursion (HasRecords i n) blocks
    → AreFoundColumns file s fixed asked i (held_columns blocks i n)
slice_found file s fixed asked blocks i n are hold have =
    subst (λ (fields : List (ℕ × Leaf)). AreFoundColumns file s fixed fields i (held_columns blocks i n)) are.fields (held_found file s fixed blocks i n are.all hold have)

-- The records of a slice, read run after run, and the sum of their first column.
use Rattle.std.proofs.Common.{◌≡◌, ℕ, zero, suc, ◌+◌, ◌-◌, ◌%◌, ◌^◌, ◌<◌, ◌≤◌, List, [], ◌∷◌, map, length, get_or, Some, refl, sym, subst, ap, ◌∙◌, arith, inr}
use Rattle.std.specs.List.{sum_by, AllByRecursion, range_with_len}
use Rattle.std.proofs.lemmas.List.{length-map}
use Rattle.e57_base.specs.Source.{SourceView}
use Rattle.e57_base.specs.declared.fault.OpenFault.{OpenFault}
use Rattle.e57_base.specs.declared.fault.OpenFault.TheVariants as lost
use Rattle.e57_base.proofs.CountLaws.{rose_before}
use Rattle.e57_base.proofs.Lists.{all_map}
use Rattle.e57_base.proofs.Told.{told_all, told_both, told_here, told_map}
use Rattle.e57_layout.specs.Values.{ItemKind, Value}
use Rattle.e57_layout.specs.Packing.{join_columns}
use Rattle.e57_cloud.specs.Cloud.{Leaf}
use Rattle.e57_stream.specs.Asking.{AsksMet}
use Rattle.e57_stream.proofs.AskingLaws.{asks_met_on}
use Rattle.e57_blocks.specs.Block.{Block, Holds, held_item}
use Rattle.e57_blocks.specs.Runs.{HasRecords, held_values}
use Rattle.e57_blocks.specs.Fields.{Blocks, Slice, OnSlice, slice_at, field_of, record_fault, AreOf, IsReady, FillsBlocks, FillsNoBlocks, IsBlocksCause}
use Rattle.e57_copy.specs.Found.{asked_kinds, AreFoundColumns}
use Rattle.e57_copy.specs.Adding.{held_columns}
use Rattle.e57_copy.specs.Copying.{AreSame, StandBefore}
use Rattle.e57_copy.proofs.Columns.{long_with}
use Rattle.e57_copy.proofs.Copying.{all_in, holds_later, part, part_asks, slice_is, same_on}
use Rattle.e57_copy.proofs.Found.{found_columns_both, found_none, slice_found}
use Rattle.e57_repack.specs.Widening.{HasFault, IsRecordCause}
use Rattle.e57_trial.specs.Summing.{raw_number, column_sum, first_sum, SumsFirst, SumsAll, SumsNot}
use Rattle.e57_trial.proofs.Sums.{first-joined, sum-more, sum-none}

-- ---- columns

blank-long : (kinds : List ItemKind) → AllByRecursion (λ (column : List Value). length column ≡ 0) (map (λ (kind : ItemKind). []) kinds)
blank-long [] = tt
blank-long (k ∷ kinds) = (refl, blank-long kinds)

pub blank-sum : {X : Type 0} (xs : List X) → 0 ≡ first_sum (map (λ (x : X). []) xs)
blank-sum [] = sym sum-none
blank-sum (x ∷ xs) = sym sum-none

range-length : (from n : ℕ) → length (range_with_len from n) ≡ n
range-length from zero = refl
range-length from (suc n) = ap suc (range-length (from + 1) n)

held-long : (blocks : List Block) (i n : ℕ) → AllByRecursion (λ (column : List Value). length column ≡ n) (held_columns blocks i n)
held-long [] i n = tt
held-long (b ∷ blocks) i n = (length-map (range_with_len (i - b.first) n) (held_item b) ∙ range-length (i - b.first) n, held-long blocks i n)

joined-many : (xs ys : List (List Value)) → length xs ≡ length ys → length (join_columns xs ys) ≡ length xs
unfolding join_columns
joined-many [] [] same = refl
joined-many [] (y ∷ ys) same = absurd (omega arith)
joined-many (x ∷ xs) [] same = refl
joined-many (x ∷ xs) (y ∷ ys) same = ap suc (joined-many xs ys (omega arith))

-- ---- the blocks

held-many : (blocks : List Block) (fields : List (ℕ × Leaf)) → map field_of blocks ≡ fields → length blocks ≡ length fields
held-many blocks fields same = sym (length-map blocks field_of) ∙ ap (λ (xs : List (ℕ × Leaf)). length xs) same

module _ (first : Blocks) (count : ℕ) (old : SourceView) where
  abbrev a : Slice
  a = slice_at first 0 count

  pub sums-none : SumsFirst a 0 old 0
  sums-none =
      let kinds = asked_kinds a.asked in
      let one = length-map kinds (λ (kind : ItemKind). []) in
      let two = length-map a.asked (λ (field : ℕ × Leaf). field.1.kind) in
      record {
        columns = map (λ (kind : ItemKind). []) kinds;
        as_many = one ∙ two;
        long = blank-long kinds;
        found = told_all (λ file. AreFoundColumns file a.section a.fixed a.asked 0 (map (λ (kind : ItemKind). []) kinds)) old.held (λ file. found_none file a.section a.fixed a.asked 0);
        sum = blank-sum kinds;
      }

  module _ (i want : ℕ) (mid : SourceView) (b : Blocks) (total : ℕ) (met : AsksMet (OnSlice a) old mid) (same : AreSame first b) (high : i + want ≤ count) (so_far : SumsFirst a i old total) where
    pub asks-on : (new : SourceView) → AsksMet (OnSlice (slice_at b i want)) mid new → AsksMet (OnSlice a) old new
    asks-on new asks =
        asks_met_on (OnSlice a) old mid new met
        (part_asks a i want mid new (omega arith) (omega (arith, high)) (subst (λ (s : Slice). AsksMet (OnSlice s) mid new) (slice_is first b 0 count i want same) asks))

    module _ (m : ℕ) (new : SourceView) (after : Blocks) (of : AreOf b.section b.fixed after) (fills : FillsBlocks (slice_at b i want) mid m new after.blocks) where
      filled : FillsBlocks (part a i want) mid m new after.blocks
      filled = subst (λ (s : Slice). FillsBlocks s mid m new after.blocks) (slice_is first b 0 count i want same) fills

      pub same-on : AreSame first after
      same-on = same_on first b after 0 count same of filled.are

      pub many-on : length after.blocks ≡ length first.blocks
      many-on = held-many after.blocks a.asked filled.are.fields ∙ length-map first.blocks field_of

      pub stand-on : StandBefore after (i + m) new
      stand-on = record {
        all = all_in first after same-on filled.are;
        ready = all_map (HasRecords i m) (IsReady (i + m)) after.blocks (λ b has. let low = has.0 in let high = has.1 in inr (omega (arith, low), omega (arith, high))) filled.have;
        holds = holds_later mid new after.blocks filled.met.asks.same.held filled.holds;
      }

      -- the items of these records too
      pub sums-on : (next : ℕ) → next ≡ (total + sum_by raw_number (get_or (held_columns after.blocks i m) 0 [])) % 2 ^ 64 → SumsFirst a (i + m) old next
      sums-on next is =
          let columns = so_far.columns in
          let more = held_columns after.blocks i m in
          let from_zero : i ≡ 0 + i = omega arith in
          let mapped = length-map after.blocks (λ (b : Block). held_values b i m) in
          let even : length columns ≡ length more = so_far.as_many ∙ length-map first.blocks field_of ∙ sym (mapped ∙ many-on) in
          record {
            columns = join_columns columns more;
            as_many = joined-many columns more even ∙ so_far.as_many;
            long = long_with i m columns more so_far.long (held-long after.blocks i m) even;
            found = told_both (λ file. AreFoundColumns file a.section a.fixed a.asked 0 columns) (λ file. AllByRecursion (Holds file) after.blocks)
                (λ file. AreFoundColumns file a.section a.fixed a.asked 0 (join_columns columns more)) old.held
                (λ file found holds.
                found_columns_both file a.section a.fixed a.asked 0 i columns more so_far.long found
                (subst (λ (k : ℕ). AreFoundColumns file a.section a.fixed a.asked k more) from_zero (slice_found file a.section a.fixed a.asked after.blocks i m filled.are holds filled.have)))
                so_far.found
                (told_here (λ file. AllByRecursion (Holds file) after.blocks) mid.held old.held (sym met.asks.same.held) filled.holds);
            sum = sum-more total next (get_or columns 0 []) (get_or more 0 []) so_far.sum is ∙ ap column_sum (sym (first-joined columns more even));
          }

    -- the next record isn't held
    pub stops : (new : SourceView) (after : List Block) (some : 0 < want) (fault : OpenFault) → FillsNoBlocks (slice_at b i want) mid b.blocks fault new after → SumsNot a old fault new
    stops new after some fault fails =
        let unfilled = subst (λ (s : Slice). FillsNoBlocks s mid b.blocks fault new after) (slice_is first b 0 count i want same) fails in
        record { met = asks-on new fails.met; cause = by_fault fault unfilled.cause }
      where
        by_fault : (fault : OpenFault) → IsBlocksCause (part a i want) mid b.blocks fault new → IsRecordCause a old fault new
        by_fault (lost.Refused found) wrong =
            told_here (HasFault a found) mid.held old.held (sym met.asks.same.held)
            (told_map (λ file. record_fault file a.section a.fixed a.asked i ≡ Some found) (HasFault a found) mid.held (λ file is. record { i = i; before = omega (arith, some, high); is = is }) wrong.1)
        by_fault lost.Source rose = rose_before old.faults mid.faults new.faults met.asks.faults rose
        by_fault lost.Memory x = tt

pub all-summed : (a : Slice) (n : ℕ) (old : SourceView) (total : ℕ) (new : SourceView) → n ≤ a.count → a.count ≤ n → AsksMet (OnSlice a) old new → SumsFirst a n old total → SumsAll a old total new
all-summed a n old total new low high met first =
    let same : n ≡ a.count = omega (arith, low, high) in
    record { met = met; first = subst (λ (k : ℕ). SumsFirst a k old total) same first }

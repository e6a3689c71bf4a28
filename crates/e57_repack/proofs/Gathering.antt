-- The records of a slice, whose items widen ranges run after run.
use Rattle.std.proofs.Common.{◌≡◌, ℕ, ◌+◌, ◌-◌, ◌<◌, ◌≤◌, List, [], ◌∷◌, ◌++◌, map, length, zero, suc, Some, None, Option, refl, sym, subst, ap, ◌∙◌, arith, inr, Bool, true, false}
use Rattle.std.specs.Prelude.{◌==◌, if◌then◌else◌}
use Rattle.std.specs.List.{AllByRecursion, range_with_len}
use Rattle.std.proofs.lemmas.List.{length-map}
use Rattle.e57_base.specs.Source.{SourceView}
use Rattle.e57_base.specs.declared.fault.OpenFault.{OpenFault}
use Rattle.e57_base.specs.declared.fault.OpenFault.TheVariants as lost
use Rattle.e57_base.proofs.CountLaws.{rose_before}
use Rattle.e57_base.proofs.Lists.{all_map}
use Rattle.e57_base.proofs.Told.{told_all, told_both, told_here, told_map}
use Rattle.e57_layout.specs.Values.{ItemKind, Value}
use Rattle.e57_layout.specs.Packing.{join_columns}
use Rattle.e57_layout.specs.declared.field.Field.{Field}
use Rattle.e57_cloud.specs.Cloud.{Leaf}
use Rattle.e57_stream.specs.Asking.{AsksMet}
use Rattle.e57_stream.proofs.AskingLaws.{asks_met_on, asks_met_map}
use Rattle.e57_blocks.specs.Block.{Block, Holds, held_item}
use Rattle.e57_blocks.specs.Runs.{HasRecords, held_values}
use Rattle.e57_blocks.specs.Fields.{Blocks, Slice, OnSlice, slice_at, field_of, record_fault, AreOf, IsReady, FillsBlocks, FillsNoBlocks, IsBlocksCause}
use Rattle.e57_copy.specs.Found.{asked_kinds, AreFoundColumns}
use Rattle.e57_copy.specs.Adding.{held_columns}
use Rattle.e57_copy.specs.Copying.{AreSame, StandBefore}
use Rattle.e57_copy.proofs.Columns.{long_with}
use Rattle.e57_copy.proofs.Copying.{part, slice_is, same_on}
use Rattle.e57_copy.proofs.Found.{found_columns_both, found_none, slice_found}
use Rattle.e57_plain.specs.Tight.{range_of, field_items}
use Rattle.e57_edits.specs.declared.limits.Range.{Range}
use Rattle.e57_edits.specs.Ranges.{range_at}
use Rattle.e57_repack.specs.Widening.{joined, AreWidened, WidensFirst, WidensAll, WidensNot, HasFault, IsRecordCause}
use Rattle.e57_repack.proofs.Joining.{joined-none}
use Rattle.e57_repack.proofs.Entries.{widened-join}

-- ---- no records

none_either : (b : Bool) → ◌≡◌ {A = List Value} (if b then [] else []) []
none_either true = refl
none_either false = refl

pub blank-range : {X : Type 0} (n : ℕ) (fields : List Field) (xs : List X) → range_of (field_items n fields (map (λ (x : X). []) xs)) ≡ None
blank-range n [] xs = refl
blank-range n (f ∷ fields) [] = refl
blank-range {X} n (f ∷ fields) (x ∷ xs) = ap (λ (vs : List Value). range_of (vs ++ field_items n fields (map (λ (x : X). []) xs))) (none_either (f.node == n)) ∙ blank-range n fields xs

blank-long : (kinds : List ItemKind) → AllByRecursion (λ (column : List Value). length column ≡ 0) (map (λ (kind : ItemKind). []) kinds)
blank-long [] = tt
blank-long (k ∷ kinds) = (refl, blank-long kinds)

-- ---- the blocks

part_asks : (a : Slice) (i n : ℕ) (old new : SourceView) → a.from ≤ i → i + n ≤ a.from + a.count → AsksMet (OnSlice (part a i n)) old new → AsksMet (OnSlice a) old new
part_asks a i n old new low high asks =
    asks_met_map (OnSlice (part a i n)) (OnSlice a) old new
    (told_all (λ file. (p : ℕ) → OnSlice (part a i n) file p → OnSlice a file p) old.held
    (λ file p on.
    let after = on.after in
    let before = on.before in
    record { f = on.f; leaf = on.leaf; i = on.i; asks = on.asks; after = omega (arith, after, low); before = omega (arith, before, high); way = on.way })) asks

held-many : (blocks : List Block) (fields : List (ℕ × Leaf)) → map field_of blocks ≡ fields → length blocks ≡ length fields
held-many blocks fields same = sym (length-map blocks field_of) ∙ ap (λ (xs : List (ℕ × Leaf)). length xs) same

range-length : (from n : ℕ) → length (range_with_len from n) ≡ n
range-length from zero = refl
range-length from (suc n) = ap suc (range-length (from + 1) n)

held-long : (blocks : List Block) (i n : ℕ) → AllByRecursion (λ (column : List Value). length column ≡ n) (held_columns blocks i n)
held-long [] i n = tt
held-long (b ∷ blocks) i n = (length-map (range_with_len (i - b.first) n) (held_item b) ∙ range-length (i - b.first) n, held-long blocks i n)

joined-many : (xs ys : List (List Value)) → length xs ≡ length ys → length (join_columns xs ys) ≡ length xs
unfolding join_columns
joined-many [] [] same = refl
joined-many [] (y ∷ ys) same = absurd (omega arith)
joined-many (x ∷ xs) [] same = refl
joined-many (x ∷ xs) (y ∷ ys) same = ap suc (joined-many xs ys (omega arith))

module _ (first : Blocks) (count : ℕ) (fields : List Field) (old : SourceView) (before : List (Option Range)) (many : length first.blocks ≡ length fields) where
  abbrev a : Slice
  a = slice_at first 0 count

  pub widens-none : WidensFirst a 0 fields old before before
  widens-none =
      let kinds = asked_kinds a.asked in
      let one = length-map kinds (λ (kind : ItemKind). []) in
      let two = length-map a.asked (λ (field : ℕ × Leaf). field.1.kind) in
      let three = length-map first.blocks field_of in
      record {
        columns = map (λ (kind : ItemKind). []) kinds;
        as_many = one ∙ two ∙ three ∙ many;
        long = blank-long kinds;
        found = told_all (λ file. AreFoundColumns file a.section a.fixed a.asked 0 (map (λ (kind : ItemKind). []) kinds)) old.held (λ file. found_none file a.section a.fixed a.asked 0);
        widened = λ n. sym (ap (joined (range_at before n)) (blank-range n fields kinds) ∙ joined-none (range_at before n));
      }

  module _ (i want : ℕ) (mid : SourceView) (b : Blocks) (now : List (Option Range)) (met : AsksMet (OnSlice a) old mid) (same : AreSame first b) (high : i + want ≤ count) (so_far : WidensFirst a i fields old before now) where
    pub asks-on : (new : SourceView) → AsksMet (OnSlice (slice_at b i want)) mid new → AsksMet (OnSlice a) old new
    asks-on new asks =
        asks_met_on (OnSlice a) old mid new met
        (part_asks a i want mid new (omega arith) (omega (arith, high)) (subst (λ (s : Slice). AsksMet (OnSlice s) mid new) (slice_is first b 0 count i want same) asks))

    module _ (m : ℕ) (new : SourceView) (after : Blocks) (of : AreOf b.section b.fixed after) (fills : FillsBlocks (slice_at b i want) mid m new after.blocks) where
      filled : FillsBlocks (part a i want) mid m new after.blocks
      filled = subst (λ (s : Slice). FillsBlocks s mid m new after.blocks) (slice_is first b 0 count i want same) fills

      pub same-on : AreSame first after
      same-on = same_on first b after 0 count same of filled.are

      pub many-on : length after.blocks ≡ length fields
      many-on = held-many after.blocks (map field_of first.blocks) filled.are.fields ∙ length-map first.blocks field_of ∙ many

      pub stand-on : StandBefore after (i + m) new
      stand-on = record {
        all = rw (same-on.section, same-on.with_fixed) filled.are.all;
        ready = all_map (HasRecords i m) (IsReady (i + m)) after.blocks (λ b has. let low = has.0 in let high = has.1 in inr (omega (arith, low), omega (arith, high))) filled.have;
        holds = told_here (λ file. AllByRecursion (Holds file) after.blocks) mid.held new.held filled.met.asks.same.held filled.holds;
      }

      -- the items of these records too
      pub widens-on : (next : List (Option Range)) → AreWidened now fields (held_columns after.blocks i m) next → WidensFirst a (i + m) fields old before next
      widens-on next widened =
          let columns = so_far.columns in
          let more = held_columns after.blocks i m in
          let from_zero : i ≡ 0 + i = omega arith in
          let mapped = length-map after.blocks (λ (b : Block). held_values b i m) in
          let even : length columns ≡ length more = so_far.as_many ∙ sym (mapped ∙ many-on) in
          record {
            columns = join_columns columns more;
            as_many = joined-many columns more even ∙ so_far.as_many;
            long = long_with i m columns more so_far.long (held-long after.blocks i m) even;
            found = told_both (λ file. AreFoundColumns file a.section a.fixed a.asked 0 columns) (λ file. AllByRecursion (Holds file) after.blocks)
                (λ file. AreFoundColumns file a.section a.fixed a.asked 0 (join_columns columns more)) old.held
                (λ file found holds.
                found_columns_both file a.section a.fixed a.asked 0 i columns more so_far.long found
                (subst (λ (k : ℕ). AreFoundColumns file a.section a.fixed a.asked k more) from_zero (slice_found file a.section a.fixed a.asked after.blocks i m filled.are holds filled.have)))
                so_far.found
                (told_here (λ file. AllByRecursion (Holds file) after.blocks) mid.held old.held (sym met.asks.same.held) filled.holds);
            widened = widened-join before now next fields columns more even so_far.widened widened;
          }

    -- the next record isn't held
    pub stops : (new : SourceView) (after : List Block) (some : 0 < want) (fault : OpenFault) → FillsNoBlocks (slice_at b i want) mid b.blocks fault new after → WidensNot a old fault new
    stops new after some fault fails =
        let unfilled = subst (λ (s : Slice). FillsNoBlocks s mid b.blocks fault new after) (slice_is first b 0 count i want same) fails in
        record { met = asks-on new fails.met; cause = by_fault fault unfilled.cause }
      where
        by_fault : (fault : OpenFault) → IsBlocksCause (part a i want) mid b.blocks fault new → IsRecordCause a old fault new
        by_fault (lost.Refused found) wrong =
            told_here (HasFault a found) mid.held old.held (sym met.asks.same.held)
            (told_map (λ file. record_fault file a.section a.fixed a.asked i ≡ Some found) (HasFault a found) mid.held (λ file is. record { i = i; before = omega (arith, some, high); is = is }) wrong.1)
        by_fault lost.Source rose = rose_before old.faults mid.faults new.faults met.asks.faults rose
        by_fault lost.Memory x = tt

pub all-widened : (a : Slice) (n : ℕ) (fields : List Field) (old : SourceView) (before : List (Option Range)) (new : SourceView) (after : List (Option Range)) → n ≤ a.count → a.count ≤ n → AsksMet (OnSlice a) old new → WidensFirst a n fields old before after
    → WidensAll a fields old before new after
all-widened a n fields old before new after low high met first =
    let same : n ≡ a.count = omega (arith, low, high) in
    record { met = met; first = subst (λ (k : ℕ). WidensFirst a k fields old before after) same first }

-- The records of a slice, copied run after run.
use Rattle.std.proofs.Common.{◌≡◌, ℕ, ◌+◌, ◌-◌, ◌<◌, ◌≤◌, List, [], ◌∷◌, map, length, zero, suc, false, Some, refl, sym, subst, ap, ◌∙◌, arith, inl, inr}
use Rattle.std.specs.Prelude.{IfSome, get_or, slice_get}
use Rattle.std.specs.Option.{option_map}
use Rattle.std.proofs.lemmas.Option.{slice_get-map}
use Rattle.std.specs.List.{AllByRecursion}
use Rattle.e57_base.specs.Source.{SourceView}
use Rattle.e57_base.specs.Target.{TargetView}
use Rattle.e57_base.specs.Fault.{open_as_run, write_as_run}
use Rattle.e57_base.specs.declared.fault.Fault.{Fault}
use Rattle.e57_base.specs.declared.fault.RunFault.TheVariants as as_run
use Rattle.e57_base.specs.declared.fault.OpenFault.{OpenFault}
use Rattle.e57_base.specs.declared.fault.OpenFault.TheVariants as lost
use Rattle.e57_base.specs.declared.fault.WriteFault.{WriteFault}
use Rattle.e57_base.specs.declared.fault.WriteFault.TheVariants as unwritten
use Rattle.e57_base.proofs.CountLaws.{rose_before}
use Rattle.e57_base.proofs.Lists.{all_map}
use Rattle.e57_base.proofs.Told.{told_all, told_both, told_here, told_map}
use Rattle.e57_layout.specs.Values.{item_kind, ItemKind, Value, strings}
use Rattle.e57_layout.specs.declared.field.Field.{Field}
use Rattle.e57_cloud.specs.Cloud.{Leaf}
use Rattle.e57_layout.specs.Packing.{join_columns}
use Rattle.e57_page_out.specs.Sequences.{Leaves}
use Rattle.e57_page_out.specs.Writing.{Writing, IsBeingWritten}
use Rattle.e57_page_out.proofs.Sequences.{leaves_later, leaves_still}
use Rattle.e57_stream.specs.Asking.{AsksMet}
use Rattle.e57_stream.proofs.AskingLaws.{asks_met_on, asks_met_map}
use Rattle.e57_column.specs.Column.{kind_of}
use Rattle.e57_blocks.specs.Block.{Block, held_item, Holds}
use Rattle.e57_blocks.specs.Runs.{HasRecords}
use Rattle.e57_blocks.specs.Fields.{Blocks, Slice, OnSlice, slice_at, field_of, record_fault, IsOf, AreOf, AreBlocks, IsReady, AreOfFile, FillsBlocks, FillsNoBlocks, IsBlocksCause}
use Rattle.e57_chunk_out.specs.CloudCalls.{kinds_in, HasStrings, IsBetween}
use Rattle.e57_chunk_out.specs.Standing.{Cloud}
use Rattle.e57_copy.specs.Found.{asked_kinds, AreFoundColumns}
use Rattle.e57_copy.specs.Adding.{block_kinds, held_columns, AddsRecords, LosesRun}
use Rattle.e57_copy.specs.Copying.{AreOfSlice, AreSame, CopiesAll, CopiesFirst, CopiesNot, IsOutside, StandBefore}
use Rattle.e57_copy.specs.Items.{AreAlike}
use Rattle.e57_copy.specs.Limits.{IsRunOutside}
use Rattle.e57_blocks.proofs.Faults.{item_held}
use Rattle.e57_copy.proofs.Alike.{none_alike, strings_alike}
use Rattle.e57_copy.proofs.Columns.{columns_long, no_records}
use Rattle.e57_copy.proofs.Found.{found_columns_both, found_none, kinds_asked, slice_found}
use Rattle.e57_copy.proofs.Adding.{adds_both, adds_none, passes_later}

-- ---- a part of a slice

-- some records of it
abbrev pub part : Slice → ℕ → ℕ → Slice
part a i n = record { section = a.section; fixed = a.fixed; asked = a.asked; from = i; count = n }

pub part_asks : (a : Slice) (i n : ℕ) (old new : SourceView) → a.from ≤ i → i + n ≤ a.from + a.count → AsksMet (OnSlice (part a i n)) old new → AsksMet (OnSlice a) old new
part_asks a i n old new low high asks =
    asks_met_map (OnSlice (part a i n)) (OnSlice a) old new
    (told_all (λ file. (p : ℕ) → OnSlice (part a i n) file p → OnSlice a file p) old.held
    (λ file p on.
    let after = on.after in
    let before = on.before in
    record { f = on.f; leaf = on.leaf; i = on.i; asks = on.asks; after = omega (arith, after, low); before = omega (arith, before, high); way = on.way })) asks

-- ---- the blocks

pub same_none : (b : Blocks) → AreSame b b
same_none b = record { section = refl; with_fixed = refl; fields = refl }

-- the slice that the blocks are filled from
pub slice_is : (first b : Blocks) (from count i n : ℕ) → AreSame first b → slice_at b i n ≡ part (slice_at first from count) i n
slice_is first b from count i n same = rw (same.section, same.with_fixed, same.fields) refl

-- blocks of the fields of a slice that were filled, or were not
pub same_on : (first b after : Blocks) (from count : ℕ) → AreSame first b → AreOf b.section b.fixed after → AreBlocks first.section first.fixed (map field_of first.blocks) after.blocks → AreSame first after
same_on first b after from count same of are = record { section = of.in_section ∙ same.section; with_fixed = of.with_fixed ∙ same.with_fixed; fields = are.fields }

-- their kinds are those of the fields
pub kinds_same : (first b : Blocks) → AreSame first b → block_kinds b.blocks ≡ block_kinds first.blocks
kinds_same first b same = kinds_asked b.blocks ∙ ap asked_kinds same.fields ∙ sym (kinds_asked first.blocks)

all_at : {X : Type 0} (P : X → Type 0) (xs : List X) (j : ℕ) (x : X) → slice_get xs j ≡ Some x → AllByRecursion P xs → P x
all_at P [] j x is all = absurd cc
all_at P (y ∷ ys) zero x is all = let same : y ≡ x = cc in subst P same all.0
all_at P (y ∷ ys) (suc j) x is all = all_at P ys j x is all.1

pub holds_later : (old new : SourceView) (blocks : List Block) → new.held ≡ old.held → AreOfFile old blocks → AreOfFile new blocks
holds_later old new blocks same holds = told_here (λ file. AllByRecursion (Holds file) blocks) old.held new.held same holds

pub all_in : (first b : Blocks) → AreSame first b → AreBlocks first.section first.fixed (map field_of first.blocks) b.blocks → AllByRecursion (IsOf b.section b.fixed) b.blocks
all_in first b same are = rw (same.section, same.with_fixed) are.all

-- a field of strings is among them
pub strings_among : (blocks : List Block) (k : ℕ) (b : Block) → k < length blocks → get_or blocks k b ≡ b → kind_of b.column.items ≡ strings → HasStrings (block_kinds blocks)
strings_among [] k b below is texts = absurd (omega arith)
strings_among (c ∷ blocks) zero b below is texts = inl (ap (λ (x : Block). kind_of x.column.items) is ∙ texts)
strings_among (c ∷ blocks) (suc k) b below is texts = inr (strings_among blocks k b (omega arith) is texts)

-- ---- the first records

module _ {T : Type 0} (view : T → TargetView) (first : Blocks) (from count : ℕ) (old : SourceView) (c : Cloud) (out : Writing T) where
  abbrev a : Slice
  a = slice_at first from count

  pub copies_none : AreAlike (block_kinds first.blocks) c.kinds → StandBefore first from old → IsBetween c → c.is_spent ≡ false → IsBeingWritten view out → CopiesFirst view a 0 old c out old first c out
  copies_none alike stand between unspent state =
      let none : from + 0 ≡ from = omega arith in
      record {
        within = omega arith;
        before = subst (λ (i : ℕ). StandBefore first i old) (sym none) stand;
        columns = no_records c.kinds;
        found = told_all (λ file. AreFoundColumns file a.section a.fixed a.asked a.from (no_records c.kinds)) old.held
            (λ file.
            subst (λ (columns : List (List Value)). AreFoundColumns file a.section a.fixed a.asked a.from columns) (ap no_records (sym (kinds_asked first.blocks)) ∙ none_alike (block_kinds first.blocks) c.kinds alike)
            (found_none file a.section a.fixed a.asked a.from));
        adds = adds_none view c out between unspent state;
      }

  module _ (i want : ℕ) (mid : SourceView) (b : Blocks) (c' : Cloud) (out' : Writing T) (met : AsksMet (OnSlice a) old mid) (same : AreSame first b) (low : from ≤ i) (high : i + want ≤ from + count) (copies : CopiesFirst view a (i - from) old c out mid b c' out') where
    place : from + (i - from) ≡ i
    place = omega (arith, low)

    -- what is asked for of the next records
    pub asks_on : (new : SourceView) → AsksMet (OnSlice (slice_at b i want)) mid new → AsksMet (OnSlice a) old new
    asks_on new asks =
        asks_met_on (OnSlice a) old mid new met
        (part_asks a i want mid new low high (subst (λ (s : Slice). AsksMet (OnSlice s) mid new) (slice_is first b from count i want same) asks))

    left_at : Leaves view out (view out'.target)
    left_at = leaves_later view out out' (view out'.target) copies.adds.target (leaves_still view out' copies.adds.state)

    module _ (m : ℕ) (new : SourceView) (after : Blocks) (of : AreOf b.section b.fixed after) (fills : FillsBlocks (slice_at b i want) mid m new after.blocks) where
      filled : FillsBlocks (part a i want) mid m new after.blocks
      filled = subst (λ (s : Slice). FillsBlocks s mid m new after.blocks) (slice_is first b from count i want same) fills

      pub same_filled : AreSame first after
      same_filled = same_on first b after from count same of filled.are

      pub filled_within : i + m ≤ from + count
      filled_within = let few = fills.few in omega (arith, few, high)

      abbrev pub next : List (List Value)
      next = held_columns after.blocks i m

      -- the items of the first records, and of these
      found_on : AreOfSlice a old (join_columns copies.columns next)
      found_on =
          told_both (λ file. AreFoundColumns file a.section a.fixed a.asked a.from copies.columns) (λ file. AllByRecursion (Holds file) after.blocks)
          (λ file. AreFoundColumns file a.section a.fixed a.asked a.from (join_columns copies.columns next)) old.held
          (λ file before holds.
          found_columns_both file a.section a.fixed a.asked a.from (i - from) copies.columns next (columns_long c.kinds (i - from) copies.columns copies.adds.columns) before
          (subst (λ (k : ℕ). AreFoundColumns file a.section a.fixed a.asked k next) (sym place) (slice_found file a.section a.fixed a.asked after.blocks i m filled.are holds filled.have)))
          copies.found
          (told_here (λ file. AllByRecursion (Holds file) after.blocks) mid.held old.held (sym met.asks.same.held) filled.holds)

      stand_on : StandBefore after (i + m) new
      stand_on = record {
        all = all_in first after same_filled filled.are;
        ready = all_map (HasRecords i m) (IsReady (i + m)) after.blocks (λ b has. let low = has.0 in let high = has.1 in inr (omega (arith, low), omega (arith, high))) filled.have;
        holds = holds_later mid new after.blocks filled.met.asks.same.held filled.holds;
      }

      sum : i - from + m ≡ i + m - from
      sum = omega (arith, low)

      -- these were put too
      pub copies_on : (c'' : Cloud) (out'' : Writing T) → AddsRecords view m next c' out' c'' out'' → CopiesFirst view a (i + m - from) old c out new after c'' out''
      copies_on c'' out'' adds =
          let few = filled_within in
          let end : from + (i - from + m) ≡ i + m = omega (arith, low) in
          subst (λ (n : ℕ). CopiesFirst view a n old c out new after c'' out'') sum
          (record {
            within = omega (arith, few, low);
            before = subst (λ (k : ℕ). StandBefore after k new) (sym end) stand_on;
            columns = join_columns copies.columns next;
            found = found_on;
            adds = adds_both view (i - from) m copies.columns next c c' c'' out out' out'' copies.adds adds;
          })

      -- they were not
      pub stops_put : (fault : WriteFault) (c'' : Cloud) (out'' : Writing T) → LosesRun view m next c' out' fault c'' out'' → CopiesNot view a old c out (write_as_run fault) new after c'' out''
      stops_put unwritten.Target c'' out'' lost = record {
        met = asks_on new fills.met;
        left = leaves_later view out out' (view out''.target) copies.adds.target lost.cause.0;
        cause = (record { cloud = lost.spent; file = lost.file }, rose_before (view out.target).faults (view out'.target).faults (view out''.target).faults copies.adds.target.faults lost.cause.1);
      }
      stops_put unwritten.Large c'' out'' lost =
          let few = filled_within in
          let some = fills.some in
          record {
            met = asks_on new fills.met;
            left = leaves_later view out out' (view out''.target) copies.adds.target lost.cause.0;
            cause = (
              record { cloud = lost.spent; file = lost.file },
              record {
                n = i - from + m;
                some = omega (arith, some);
                few = omega (arith, few, low);
                columns = join_columns copies.columns next;
                found = found_on;
                passes = passes_later view (i - from) m copies.columns next c c' out out' copies.adds lost.cause.1;
              },
            );
          }
      stops_put unwritten.Memory c'' out'' lost = record {
        met = asks_on new fills.met;
        left = leaves_later view out out' (view out''.target) copies.adds.target lost.cause.0;
        cause = subst HasStrings copies.adds.kinds lost.cause.1;
      }

      -- one of them isn't within the cloud's limits
      outside_here : (fields : List Field) (found : Fault) → c.kinds ≡ kinds_in fields → (outside : IsRunOutside fields after.blocks i m found) → (file : List ℕ) → AllByRecursion (Holds file) after.blocks → IsOutside a c.kinds file outside.outside.k
      outside_here fields found kinds outside file holds =
          let one = outside.outside in
          let low = one.after in
          let high = one.before in
          let has = all_at (HasRecords i m) after.blocks outside.j outside.block outside.of_block filled.have in
          let first_has = has.0 in
          let last_has = has.1 in
          record {
            j = outside.j;
            field = field_of outside.block;
            asked = subst (λ (asked : List (ℕ × Leaf)). slice_get asked outside.j ≡ Some (field_of outside.block)) filled.are.fields (slice_get-map field_of after.blocks outside.j ∙ ap (option_map field_of) outside.of_block);
            kind = item_kind outside.field.kind;
            of_cloud = subst (λ (ks : List ItemKind). slice_get ks outside.j ≡ Some (item_kind outside.field.kind)) (sym kinds)
                (slice_get-map (λ (f : Field). item_kind f.kind) fields outside.j ∙ ap (option_map (λ (f : Field). item_kind f.kind)) outside.of_cloud);
            value = held_item outside.block (one.k - outside.block.first);
            item = item_held file a.section a.fixed outside.block one.k (all_at (IsOf a.section a.fixed) after.blocks outside.j outside.block outside.of_block filled.are.all)
                (all_at (Holds file) after.blocks outside.j outside.block outside.of_block holds) (omega (arith, first_has, low), omega (arith, last_has, high));
            outside = one.outside;
          }

      pub stops_outside : (fields : List Field) (found : Fault) → c.kinds ≡ kinds_in fields → IsRunOutside fields after.blocks i m found → CopiesNot view a old c out (as_run.Refused found) new after c' out'
      stops_outside fields found kinds outside =
          let one = outside.outside in
          let low_one = one.after in
          let high_one = one.before in
          let few = filled_within in
          record {
            met = asks_on new fills.met;
            left = left_at;
            cause = inr (
              ap (λ (f : Fault). f.kind) one.is,
              record {
                n = i - from;
                copies = record {
                  within = omega (arith, high, low);
                  before = subst (λ (k : ℕ). StandBefore after k new) (sym place)
                      (record {
                        all = all_in first after same_filled filled.are;
                        ready = all_map (HasRecords i m) (IsReady i) after.blocks (λ b has. let low = has.0 in let high = has.1 in inr (low, omega (arith, high))) filled.have;
                        holds = holds_later mid new after.blocks filled.met.asks.same.held filled.holds;
                      });
                  columns = copies.columns;
                  found = copies.found;
                  adds = copies.adds;
                };
                i = one.k;
                after = omega (arith, low_one, low);
                before = omega (arith, high_one, few);
                named = ap (λ (f : Fault). f.a) one.is;
                outside = told_map (λ file. AllByRecursion (Holds file) after.blocks) (λ file. IsOutside a c.kinds file one.k) old.held (outside_here fields found kinds outside)
                    (told_here (λ file. AllByRecursion (Holds file) after.blocks) mid.held old.held (sym met.asks.same.held) filled.holds);
              },
            );
          }

    module _ (new : SourceView) (after : Blocks) (some : 0 < want) (alike : AreAlike (block_kinds first.blocks) c.kinds) (of : AreOf b.section b.fixed after) (fault : OpenFault) (fails : FillsNoBlocks (slice_at b i want) mid b.blocks fault new after.blocks) where
      unfilled : FillsNoBlocks (part a i want) mid b.blocks fault new after.blocks
      unfilled = subst (λ (s : Slice). FillsNoBlocks s mid b.blocks fault new after.blocks) (slice_is first b from count i want same) fails

      pub same_unfilled : AreSame first after
      same_unfilled = same_on first b after from count same of unfilled.are

      copies_still : CopiesFirst view a (i - from) old c out new after c' out'
      copies_still = record {
        within = omega (arith, high, low);
        before = subst (λ (k : ℕ). StandBefore after k new) (sym place)
            (record { all = all_in first after same_unfilled unfilled.are; ready = unfilled.ready; holds = holds_later mid new after.blocks unfilled.met.asks.same.held unfilled.holds });
        columns = copies.columns;
        found = copies.found;
        adds = copies.adds;
      }

      -- the next record isn't held
      pub stops_fill : CopiesNot view a old c out (open_as_run fault) new after c' out'
      stops_fill = by_fault fault unfilled.cause
        where
          by_fault : (fault : OpenFault) → IsBlocksCause (part a i want) mid b.blocks fault new → CopiesNot view a old c out (open_as_run fault) new after c' out'
          by_fault (lost.Refused found) (kind, wrong) = record {
            met = asks_on new fails.met;
            left = left_at;
            cause = inl (
              kind,
              record {
                n = i - from;
                short = omega (arith, some, high, low);
                copies = copies_still;
                stopped = subst (λ (k : ℕ). IfSome old.held (λ file. record_fault file a.section a.fixed a.asked k ≡ Some found)) (sym place)
                    (told_here (λ file. record_fault file a.section a.fixed a.asked i ≡ Some found) mid.held old.held (sym met.asks.same.held) wrong);
              },
            );
          }
          by_fault lost.Source rose = record {
            met = asks_on new fails.met;
            left = left_at;
            cause = record { n = i - from; short = omega (arith, some, high, low); copies = copies_still; stopped = rose_before old.faults mid.faults new.faults met.asks.faults rose };
          }
          by_fault lost.Memory (x, (k, below, is), needs) = record {
            met = asks_on new fails.met;
            left = left_at;
            cause = strings_alike (block_kinds first.blocks) c.kinds alike (subst HasStrings (kinds_same first b same) (strings_among b.blocks k x below is needs.texts));
          }

  -- all were put
  pub copies_all : (i : ℕ) (new : SourceView) (b : Blocks) (c' : Cloud) (out' : Writing T) → i ≡ from + count → AsksMet (OnSlice a) old new → CopiesFirst view a (i - from) old c out new b c' out' → CopiesAll view a old c out new b c' out'
  copies_all i new b c' out' all met copies =
      let whole : i - from ≡ count = omega (arith, all) in
      record { met = met; copies = subst (λ (n : ℕ). CopiesFirst view a n old c out new b c' out') whole copies }

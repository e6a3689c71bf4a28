-- The records of a slice that pass, kept run after run.
use Rattle.std.proofs.Common.{◌≡◌, ℕ, ◌+◌, ◌-◌, ◌<◌, ◌≤◌, Bool, List, [], ◌∷◌, map, take, zero, suc, false, Some, refl, sym, subst, ap, ◌∙◌, arith, inl, inr}
use Rattle.std.specs.Prelude.{IfSome}
use Rattle.std.specs.List.{AllByRecursion}
use Rattle.e57_base.specs.Source.{SourceView}
use Rattle.e57_base.specs.Target.{TargetView}
use Rattle.e57_base.specs.Fault.{open_as_run, write_as_run}
use Rattle.e57_base.specs.declared.fault.OpenFault.{OpenFault}
use Rattle.e57_base.specs.declared.fault.OpenFault.TheVariants as lost
use Rattle.e57_base.specs.declared.fault.WriteFault.{WriteFault}
use Rattle.e57_base.specs.declared.fault.WriteFault.TheVariants as unwritten
use Rattle.e57_base.proofs.CountLaws.{rose_before}
use Rattle.e57_base.proofs.Lists.{all_map}
use Rattle.e57_base.proofs.Told.{told_all, told_both, told_here}
use Rattle.e57_layout.specs.Values.{ItemKind, Value}
use Rattle.e57_layout.specs.Items.{AreColumns}
use Rattle.e57_layout.specs.Packing.{join_columns}
use Rattle.e57_layout.proofs.Laws.Blocks.{join_columns-columns}
use Rattle.e57_page_out.specs.Sequences.{Leaves}
use Rattle.e57_page_out.specs.Writing.{Writing, IsBeingWritten}
use Rattle.e57_page_out.proofs.Sequences.{leaves_later, leaves_still}
use Rattle.e57_plain.specs.Kept.{passing, passing_count}
use Rattle.e57_stream.specs.Asking.{AsksMet}
use Rattle.e57_stream.proofs.AskingLaws.{asks_met_on}
use Rattle.e57_blocks.specs.Block.{Holds}
use Rattle.e57_blocks.specs.Runs.{HasRecords}
use Rattle.e57_blocks.specs.Fields.{Blocks, Slice, OnSlice, slice_at, field_of, record_fault, AreOf, IsReady, FillsBlocks, FillsNoBlocks, IsBlocksCause}
use Rattle.e57_chunk_out.specs.CloudCalls.{HasStrings, IsBetween}
use Rattle.e57_chunk_out.specs.Standing.{Cloud}
use Rattle.e57_copy.specs.Found.{asked_kinds, AreFoundColumns}
use Rattle.e57_copy.specs.Adding.{block_kinds, held_columns, AddsRecords, LosesRun, PassesWith}
use Rattle.e57_copy.specs.Copying.{AreOfSlice, AreSame, StandBefore}
use Rattle.e57_copy.proofs.Adding.{adds_both, adds_none, passes_later}
use Rattle.e57_copy.proofs.Columns.{columns_long, no_records, none_columns}
use Rattle.e57_copy.proofs.Copying.{all_in, holds_later, kinds_same, part, part_asks, same_on, slice_is, strings_among}
use Rattle.e57_copy.proofs.Found.{found_columns_both, found_none, kinds_asked, slice_found}
use Rattle.e57_filter.specs.Keeping.{kept_columns, kept_number, passes_sieve, KeepsAll, KeepsFirst, KeepsNot, Sieve}
use Rattle.e57_filter.specs.Marking.{passes_here}
use Rattle.e57_filter.proofs.Passing.{kept-joined, number-joined}

none_kept : (pass : ℕ → Bool) (p : ℕ) (kinds : List ItemKind) → map (passing pass 0) (take p (no_records kinds)) ≡ no_records (take p kinds)
none_kept pass zero kinds = refl
none_kept pass (suc p) [] = refl
none_kept pass (suc p) (kind ∷ kinds) = ap (λ (columns : List (List Value)). [] ∷ columns) (none_kept pass p kinds)

strings_take : (p : ℕ) (kinds : List ItemKind) → HasStrings (take p kinds) → HasStrings kinds
strings_take zero kinds has = absurd has
strings_take (suc p) [] has = absurd has
strings_take (suc p) (kind ∷ kinds) (inl is) = inl is
strings_take (suc p) (kind ∷ kinds) (inr has) = inr (strings_take p kinds has)

-- ---- the first records

module _ {T : Type 0} (view : T → TargetView) (s : Sieve) (p : ℕ) (first : Blocks) (from count : ℕ) (old : SourceView) (c : Cloud) (out : Writing T) where
  abbrev a : Slice
  a = slice_at first from count

  abbrev kinds : List ItemKind
  kinds = asked_kinds (map field_of first.blocks)

  pub keeps_none : c.kinds ≡ take p (block_kinds first.blocks) → StandBefore first from old → IsBetween c → c.is_spent ≡ false → IsBeingWritten view out → KeepsFirst view s p a 0 old c out old first c out
  keeps_none of_cloud stand between unspent state =
      let none : from + 0 ≡ from = omega arith in
      let same : no_records c.kinds ≡ kept_columns s p (no_records kinds) =
      ap no_records (of_cloud ∙ ap (λ (ks : List ItemKind). take p ks) (kinds_asked first.blocks)) ∙ sym (none_kept (passes_sieve s (no_records kinds)) p kinds) in
      record {
        within = omega arith;
        before = subst (λ (i : ℕ). StandBefore first i old) (sym none) stand;
        columns = no_records kinds;
        found = told_all (λ file. AreFoundColumns file a.section a.fixed a.asked a.from (no_records kinds)) old.held (λ file. found_none file a.section a.fixed a.asked a.from);
        full = none_columns kinds;
        adds = subst (λ (columns : List (List Value)). AddsRecords view 0 columns c out c out) same (adds_none view c out between unspent state);
      }

  module _ (i want : ℕ) (mid : SourceView) (b : Blocks) (c' : Cloud) (out' : Writing T) (met : AsksMet (OnSlice a) old mid) (same : AreSame first b) (low : from ≤ i) (high : i + want ≤ from + count) (keeps : KeepsFirst view s p a (i - from) old c out mid b c' out') where
    place : from + (i - from) ≡ i
    place = omega (arith, low)

    -- what is asked for of the next records
    pub asks_on : (new : SourceView) → AsksMet (OnSlice (slice_at b i want)) mid new → AsksMet (OnSlice a) old new
    asks_on new asks =
        asks_met_on (OnSlice a) old mid new met
        (part_asks a i want mid new low high (subst (λ (s : Slice). AsksMet (OnSlice s) mid new) (slice_is first b from count i want same) asks))

    left_at : Leaves view out (view out'.target)
    left_at = leaves_later view out out' (view out'.target) keeps.adds.target (leaves_still view out' keeps.adds.state)

    module _ (m : ℕ) (new : SourceView) (after : Blocks) (of : AreOf b.section b.fixed after) (fills : FillsBlocks (slice_at b i want) mid m new after.blocks) where
      filled : FillsBlocks (part a i want) mid m new after.blocks
      filled = subst (λ (s : Slice). FillsBlocks s mid m new after.blocks) (slice_is first b from count i want same) fills

      pub same_filled : AreSame first after
      same_filled = same_on first b after from count same of filled.are

      pub filled_within : i + m ≤ from + count
      filled_within = let few = fills.few in omega (arith, few, high)

      abbrev pub next : List (List Value)
      next = held_columns after.blocks i m

      -- the items of the first records, and of these
      found_on : AreOfSlice a old (join_columns keeps.columns next)
      found_on =
          told_both (λ file. AreFoundColumns file a.section a.fixed a.asked a.from keeps.columns) (λ file. AllByRecursion (Holds file) after.blocks)
          (λ file. AreFoundColumns file a.section a.fixed a.asked a.from (join_columns keeps.columns next)) old.held
          (λ file before holds.
          found_columns_both file a.section a.fixed a.asked a.from (i - from) keeps.columns next (columns_long kinds (i - from) keeps.columns keeps.full) before
          (subst (λ (k : ℕ). AreFoundColumns file a.section a.fixed a.asked k next) (sym place) (slice_found file a.section a.fixed a.asked after.blocks i m filled.are holds filled.have)))
          keeps.found
          (told_here (λ file. AllByRecursion (Holds file) after.blocks) mid.held old.held (sym met.asks.same.held) filled.holds)

      stand_on : StandBefore after (i + m) new
      stand_on = record {
        all = all_in first after same_filled filled.are;
        ready = all_map (HasRecords i m) (IsReady (i + m)) after.blocks (λ b has. let low = has.0 in let high = has.1 in inr (omega (arith, low), omega (arith, high))) filled.have;
        holds = holds_later mid new after.blocks filled.met.asks.same.held filled.holds;
      }

      sum : i - from + m ≡ i + m - from
      sum = omega (arith, low)

      kinds_next : block_kinds after.blocks ≡ kinds
      kinds_next = kinds_asked after.blocks ∙ ap asked_kinds filled.are.fields

      -- which of these pass
      abbrev pub pass : ℕ → Bool
      pass = passes_here s (i - from) next

      abbrev pub number : ℕ
      number = passing_count pass 0 m

      abbrev pub more : List (List Value)
      more = map (passing pass 0) (take p next)

      module _ (are : AreColumns (block_kinds after.blocks) m next) where
        are_next : AreColumns kinds m next
        are_next = subst (λ (ks : List ItemKind). AreColumns ks m next) kinds_next are

        full_on : AreColumns kinds (i - from + m) (join_columns keeps.columns next)
        full_on = join_columns-columns kinds (i - from) m keeps.columns next keeps.full are_next

        kept_on : kept_columns s p (join_columns keeps.columns next) ≡ join_columns (kept_columns s p keeps.columns) more
        kept_on = kept-joined s kinds (i - from) m keeps.columns next keeps.full are_next p

        number_on : kept_number s (join_columns keeps.columns next) (i - from + m) ≡ kept_number s keeps.columns (i - from) + number
        number_on = number-joined s kinds (i - from) m keeps.columns next keeps.full are_next

        -- these were put too
        pub keeps_on : (c'' : Cloud) (out'' : Writing T) → AddsRecords view number more c' out' c'' out'' → KeepsFirst view s p a (i + m - from) old c out new after c'' out''
        keeps_on c'' out'' adds =
            let few = filled_within in
            let end : from + (i - from + m) ≡ i + m = omega (arith, low) in
            subst (λ (n : ℕ). KeepsFirst view s p a n old c out new after c'' out'') sum
            (record {
              within = omega (arith, few, low);
              before = subst (λ (k : ℕ). StandBefore after k new) (sym end) stand_on;
              columns = join_columns keeps.columns next;
              found = found_on;
              full = full_on;
              adds =
                  subst (λ (k : ℕ). AddsRecords view k (kept_columns s p (join_columns keeps.columns next)) c out c'' out'') (sym number_on)
                  (subst (λ (columns : List (List Value)). AddsRecords view (kept_number s keeps.columns (i - from) + number) columns c out c'' out'') (sym kept_on)
                  (adds_both view (kept_number s keeps.columns (i - from)) number (kept_columns s p keeps.columns) more c c' c'' out out' out'' keeps.adds adds));
            })

        -- they were not
        pub stops_put : c.kinds ≡ take p (block_kinds first.blocks) → (fault : WriteFault) (c'' : Cloud) (out'' : Writing T) → LosesRun view number more c' out' fault c'' out'' → KeepsNot view s p a old c out (write_as_run fault) new after c'' out''
        stops_put of_cloud unwritten.Target c'' out'' lost = record {
          met = asks_on new fills.met;
          left = leaves_later view out out' (view out''.target) keeps.adds.target lost.cause.0;
          cause = (record { cloud = lost.spent; file = lost.file }, rose_before (view out.target).faults (view out'.target).faults (view out''.target).faults keeps.adds.target.faults lost.cause.1);
        }
        stops_put of_cloud unwritten.Large c'' out'' lost =
            let few = filled_within in
            let some = fills.some in
            record {
              met = asks_on new fills.met;
              left = leaves_later view out out' (view out''.target) keeps.adds.target lost.cause.0;
              cause = (
                record { cloud = lost.spent; file = lost.file },
                record {
                  n = i - from + m;
                  some = omega (arith, some);
                  few = omega (arith, few, low);
                  columns = join_columns keeps.columns next;
                  found = found_on;
                  full = full_on;
                  passes =
                      subst (λ (k : ℕ). PassesWith k (kept_columns s p (join_columns keeps.columns next)) c out) (sym number_on)
                      (subst (λ (columns : List (List Value)). PassesWith (kept_number s keeps.columns (i - from) + number) columns c out) (sym kept_on)
                      (passes_later view (kept_number s keeps.columns (i - from)) number (kept_columns s p keeps.columns) more c c' out out' keeps.adds lost.cause.1));
                },
              );
            }
        stops_put of_cloud unwritten.Memory c'' out'' lost = record {
          met = asks_on new fills.met;
          left = leaves_later view out out' (view out''.target) keeps.adds.target lost.cause.0;
          cause = subst HasStrings (kinds_asked first.blocks)
              (strings_take p (block_kinds first.blocks) (subst HasStrings (keeps.adds.kinds ∙ of_cloud) lost.cause.1));
        }

    module _ (new : SourceView) (after : Blocks) (some : 0 < want) (of : AreOf b.section b.fixed after) (fault : OpenFault) (fails : FillsNoBlocks (slice_at b i want) mid b.blocks fault new after.blocks) where
      unfilled : FillsNoBlocks (part a i want) mid b.blocks fault new after.blocks
      unfilled = subst (λ (s : Slice). FillsNoBlocks s mid b.blocks fault new after.blocks) (slice_is first b from count i want same) fails

      pub same_unfilled : AreSame first after
      same_unfilled = same_on first b after from count same of unfilled.are

      keeps_still : KeepsFirst view s p a (i - from) old c out new after c' out'
      keeps_still = record {
        within = omega (arith, high, low);
        before = subst (λ (k : ℕ). StandBefore after k new) (sym place)
            (record { all = all_in first after same_unfilled unfilled.are; ready = unfilled.ready; holds = holds_later mid new after.blocks unfilled.met.asks.same.held unfilled.holds });
        columns = keeps.columns;
        found = keeps.found;
        full = keeps.full;
        adds = keeps.adds;
      }

      -- the next record isn't held
      pub stops_fill : KeepsNot view s p a old c out (open_as_run fault) new after c' out'
      stops_fill = by_fault fault unfilled.cause
        where
          by_fault : (fault : OpenFault) → IsBlocksCause (part a i want) mid b.blocks fault new → KeepsNot view s p a old c out (open_as_run fault) new after c' out'
          by_fault (lost.Refused found) (kind, wrong) = record {
            met = asks_on new fails.met;
            left = left_at;
            cause = (
              kind,
              record {
                n = i - from;
                short = omega (arith, some, high, low);
                keeps = keeps_still;
                stopped = subst (λ (k : ℕ). IfSome old.held (λ file. record_fault file a.section a.fixed a.asked k ≡ Some found)) (sym place)
                    (told_here (λ file. record_fault file a.section a.fixed a.asked i ≡ Some found) mid.held old.held (sym met.asks.same.held) wrong);
              },
            );
          }
          by_fault lost.Source rose = record {
            met = asks_on new fails.met;
            left = left_at;
            cause = record { n = i - from; short = omega (arith, some, high, low); keeps = keeps_still; stopped = rose_before old.faults mid.faults new.faults met.asks.faults rose };
          }
          by_fault lost.Memory (x, (k, below, is), needs) = record {
            met = asks_on new fails.met;
            left = left_at;
            cause = subst HasStrings (kinds_asked first.blocks) (subst HasStrings (kinds_same first b same) (strings_among b.blocks k x below is needs.texts));
          }

  -- all were put
  pub keeps_all : (i : ℕ) (new : SourceView) (b : Blocks) (c' : Cloud) (out' : Writing T) → i ≡ from + count → AsksMet (OnSlice a) old new → KeepsFirst view s p a (i - from) old c out new b c' out' → KeepsAll view s p a old c out new b c' out'
  keeps_all i new b c' out' all met keeps =
      let whole : i - from ≡ count = omega (arith, all) in
      record { met = met; keeps = subst (λ (n : ℕ). KeepsFirst view s p a n old c out new b c' out') whole keeps }

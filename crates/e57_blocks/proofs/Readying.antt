-- One block filled.
use Rattle.std.specs.Prelude.{◌≡◌, ℕ, ◌+◌, ◌≤◌, false, Option, Some, None, IfSome, Result, Ok, Err, MatchResult}
use Rattle.std.proofs.Common.{refl, sym, subst, ◌∙◌, arith, inl, inr}
use Rattle.std.proofs.lemmas.Bool.Decides.{nat_tests}
use Rattle.e57_base.specs.Source.{SourceView}
use Rattle.e57_base.proofs.Told.{told_map, told_both}
use Rattle.e57_base.specs.declared.fault.Fault.{Fault}
use Rattle.e57_base.specs.declared.fault.OpenFault.{OpenFault}
use Rattle.e57_base.specs.declared.fault.OpenFault.TheVariants.{Refused, Source, Memory}
use Rattle.e57_stream.proofs.AskingLaws.{asks_met_none}
use Rattle.e57_column.specs.Column.{column_item, StandsIn}
use Rattle.e57_column.specs.Reading.{SameField, OnRecords, AsksRecords}
use Rattle.e57_blocks.specs.Block.{Block, has_record, room_of, Holds}
use Rattle.e57_blocks.specs.Filling.{Fills, FillsNot, IsLost, IsNextOf, most_of}
use Rattle.e57_blocks.specs.Fields.{IsReady, HeldNot, HoldsFrom, KeepsBlock, FillsBlock, IsBlockCause, FillsNoBlock}
use Rattle.e57_column.proofs.Joining.{same-item}
use Rattle.e57_blocks.proofs.Getting.{asks_wider}

-- ---- what is kept of a block

-- nothing was read
pub keeps_same : (source : SourceView) (b : Block) (i want : ℕ) → IfSome source.held (λ file. Holds file b) → KeepsBlock source b i want source b
keeps_same source b i want holds = record {
  same = record { stream = refl; items = refl };
  met = asks_met_none (λ file p. StandsIn file b.column → OnRecords file b.column i want p) source;
  holds = holds;
}

keeps_on : (old new : SourceView) (before after : Block) (i want most : ℕ) → most ≤ want → SameField before.column after.column → AsksRecords old before.column i most new → IfSome old.held (λ file. Holds file before → Holds file after) → IfSome old.held (λ file. Holds file before)
    → KeepsBlock old before i want new after
keeps_on old new before after i want most few same met holds held = record {
  same = same;
  met = asks_wider old new before.column i most want few met;
  holds = told_both (λ file. Holds file before → Holds file after) (λ file. Holds file before) (λ file. Holds file after) old.held (λ file goes is. goes is) holds held;
}

-- it was filled
pub keeps_filled : (old new : SourceView) (before after : Block) (i want : ℕ) → IfSome old.held (λ file. Holds file before) → Fills old before i want new after → KeepsBlock old before i want new after
keeps_filled old new before after i want held fills = keeps_on old new before after i want (most_of before want) (omega arith) fills.same fills.met fills.holds held

pub ready_filled : (old new : SourceView) (before after : Block) (i want : ℕ) → Fills old before i want new after → IsReady i after
ready_filled old new before after i want fills = let first = fills.first in inr (omega (arith, first), omega (arith, first))

-- ---- what is answered

not_has : (b : Block) (i : ℕ) → b.first ≤ i → i ≤ b.first + b.count → has_record b i ≡ false → b.first + b.count ≡ i
not_has b i low high none = grind (arith, nat_tests)

-- the fault of the record that isn't held
no_record : (old new : SourceView) (before after : Block) (i want : ℕ) (found : Fault) → KeepsBlock old before i want new after → IsReady i after → has_record after i ≡ false → after.fault ≡ Some found → IfSome old.held (λ file. column_item file before.column i ≡ Err found)
no_record old new before after i want found keeps (inl new_block) none is = let never : None ≡ Some found = sym new_block.0.1 ∙ is in absurd cc
no_record old new before after i want found keeps (inr (low, high)) none is =
    let place = not_has after i low high none in
    told_map (λ file. Holds file after) (λ file. column_item file before.column i ≡ Err found) old.held
    (λ file holds.
    let fault = subst (λ (o : Option Fault). IfSome o (λ f. column_item file after.column (after.first + after.count) ≡ Err f)) is holds.fault in
    sym (same-item file before.column after.column i keeps.same) ∙ subst (λ (k : ℕ). column_item file after.column k ≡ Err found) place fault) keeps.holds

pub held_after : (old new : SourceView) (before after : Block) (i want : ℕ) (result : Result ℕ OpenFault) → KeepsBlock old before i want new after → IsReady i after
    → MatchResult result (λ n. HoldsFrom i n after) (λ fault. HeldNot after i fault)
    → MatchResult result (λ n. FillsBlock old before i want n new after) (λ fault. FillsNoBlock old before i want fault new after)
held_after old new before after i want (Ok n) keeps ready has = record { keeps = keeps; records = has }
held_after old new before after i want (Err (Refused found)) keeps ready (none, is, kind) = record { keeps = keeps; ready = ready; cause = (kind, no_record old new before after i want found keeps ready none is) }
held_after old new before after i want (Err Source) keeps ready never = absurd never
held_after old new before after i want (Err Memory) keeps ready never = absurd never

-- it wasn't filled
lost_cause : (old new : SourceView) (b : Block) (i : ℕ) (lost : OpenFault) → IsLost old b.column i (room_of b.buffer) lost new → IsBlockCause old b i lost new
lost_cause old new b i (Refused found) never = absurd never
lost_cause old new b i Source rose = rose
lost_cause old new b i Memory needs = needs

-- nothing is held, and record i is read next
pub ready_next : (b : Block) (i : ℕ) → IsNextOf b i → b.count ≡ 0 → IsReady i b
ready_next b i (fault, inl none) empty = inl ((none, fault), empty)
ready_next b i (fault, inr here) empty = inr (omega (arith, here, empty), omega (arith, here))

pub lost_block : (old new : SourceView) (before after : Block) (i want : ℕ) (lost : OpenFault) → IfSome old.held (λ file. Holds file before) → FillsNot old before i want lost new after → FillsNoBlock old before i want lost new after
lost_block old new before after i want lost held f = record {
  keeps = keeps_on old new before after i want (most_of before want) (omega arith) f.same f.met f.holds held;
  ready = ready_next after i f.next f.none;
  cause = lost_cause old new before i lost f.cause;
}

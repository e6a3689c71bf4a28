-- A block that was filled.
use Rattle.std.specs.Prelude.{◌≡◌, ℕ, ◌+◌, ◌-◌, ◌<◌, ◌⊎◌, true, List, Option, Some, None, IfSome, Ok, Err}
use Rattle.std.proofs.Common.{refl, sym, subst, ◌∙◌, arith, inl, inr}
use Rattle.std.proofs.lemmas.Bool.Decides.{nat_tests}
use Rattle.e57_base.specs.Source.{SourceView}
use Rattle.e57_base.proofs.Told.{told_map, told_is}
use Rattle.e57_base.specs.declared.fault.Fault.{Fault}
use Rattle.e57_base.specs.declared.fault.OpenFault.{OpenFault}
use Rattle.e57_layout.specs.Values.{item_kind}
use Rattle.e57_layout.specs.declared.field.Field.{Field}
use Rattle.e57_layout.specs.declared.field.Fixed.{Fixed}
use Rattle.e57_layout.specs.declared.section.Section.{Section}
use Rattle.e57_column.specs.declared.state.State.{State}
use Rattle.e57_column.specs.Column.{kind_of, placed, column_item, StandsIn}
use Rattle.e57_column.specs.Reading.{IsOpened, SameField}
use Rattle.e57_blocks.specs.declared.buffer.Buffer.{Buffer}
use Rattle.e57_blocks.specs.declared.buffer.Got.{Got}
use Rattle.e57_blocks.specs.Block.{Block, IsBlock, Holds, IsFor, IsBehind, IsKnown, AreInside, IsKept, has_record, held_item, item_in, places_of, room_of, first_room}
use Rattle.e57_blocks.specs.Filling.{OpensBlock, IsGrown, IsNextOf, IsStill, IsEnd, Gets, GetsNot, Fills, FillsNot, most_of}
use Rattle.e57_blocks.proofs.Getting.{none_inside}
use Rattle.e57_column.proofs.Joining.{same-item}

-- ---- a block with these items

abbrev pub filled : State → Buffer → ℕ → Got → Block
filled c buffer i got = record { column = c; buffer = buffer; first = i; count = got.count; fault = got.fault }

abbrev pub emptied : State → Buffer → ℕ → Block
emptied c buffer i = record { column = c; buffer = buffer; first = i; count = 0; fault = None }

-- where the column is at the record that is read next
pub still_next : (b : Block) (i : ℕ) → IsBlock b → IsNextOf b i → IsStill i (placed b.column)
still_next b i is next = cases (placed b.column) refl is.behind next.1
  where
    cases : (at : Option ℕ) → placed b.column ≡ at → IsBehind at b.first b.count b.fault → ((placed b.column ≡ None) ⊎ (i ≡ b.first + b.count)) → IsStill i at
    cases None e behind next = tt
    cases (Some at) e behind (inl none) = absurd cc
    cases (Some at) e behind (inr here) = behind.1 ∙ sym here

end_behind : (old : SourceView) (before after : State) (i n : ℕ) (fault : Option Fault) → IsEnd old before (i + n) fault after → IsBehind (placed after) i n fault
end_behind old before after i n None e = subst (λ (at : Option ℕ). IsBehind at i n None) (sym e) (refl, refl)
end_behind old before after i n (Some found) e = subst (λ (at : Option ℕ). IsBehind at i n (Some found)) (sym e.0) (inr refl)

end_known : (old : SourceView) (before after : State) (i : ℕ) (fault : Option Fault) → IsEnd old before i fault after → IsKnown fault
end_known old before after i None e = tt
end_known old before after i (Some found) e = e.1

pub filled_is : (old new : SourceView) (before : Block) (column : State) (buffer : Buffer) (i want : ℕ) (got : Got) → IsBlock before → IsFor buffer (kind_of before.column.items) → places_of buffer ≡ places_of before.buffer → AreInside got.count buffer
    → Gets old before.column i (most_of before want) got (item_in buffer) new column → IsBlock (filled column buffer i got)
filled_is old new before column buffer i want got is kind places inside g =
    let some = is.some in
    let few = g.few in
    record {
      kind = rw g.same.items kind;
      some = omega (arith, some, places);
      few = omega (arith, few, places);
      behind = end_behind old before.column column i got.count got.fault g.behind;
      kept = rw g.same.items g.kept;
      inside = inside;
      known = end_known old before.column column (i + got.count) got.fault g.behind;
    }

end_fault : (file : List ℕ) (old : SourceView) (before after : State) (i : ℕ) (fault : Option Fault) → old.held ≡ Some file → SameField before after → StandsIn file before → IsEnd old before i fault after → IfSome fault (λ found. column_item file after i ≡ Err found)
end_fault file old before after i None held same stands e = tt
end_fault file old before after i (Some found) held same stands e = same-item file before after i same ∙ (subst (λ (o : Option (List ℕ)). IfSome o (λ file. StandsIn file before → column_item file before i ≡ Err found)) held e.2) stands

-- a fact of the file that is held
each_held : (P : List ℕ → Type 0) (held : Option (List ℕ)) → ((file : List ℕ) → held ≡ Some file → P file) → IfSome held P
each_held P None each = tt
each_held P (Some file) each = each file refl

pub fills : (old new : SourceView) (before : Block) (column : State) (buffer : Buffer) (i want : ℕ) (got : Got) → places_of buffer ≡ places_of before.buffer → IsGrown old before.column i (room_of before.buffer) (room_of buffer)
    → Gets old before.column i (most_of before want) got (item_in buffer) new column → Fills old before i want new (filled column buffer i got)
fills old new before column buffer i want got places room g = record {
  first = refl;
  some = g.some;
  few = g.few;
  all = g.all;
  places = places;
  room = room;
  same = g.same;
  met = g.met;
  holds = each_held (λ file. Holds file before → Holds file (filled column buffer i got)) old.held
      (λ file held is. record {
        stands = told_is (λ file. StandsIn file before.column → StandsIn file column) old.held file held g.stands is.stands;
        items = λ k below. same-item file before.column column (i + k) g.same ∙ told_is (λ file. StandsIn file before.column → (k : ℕ) → k < got.count → column_item file before.column (i + k) ≡ Ok (item_in buffer k)) old.held file held g.items is.stands k below;
        fault = end_fault file old before.column column (i + got.count) got.fault held g.same is.stands g.behind;
      });
}

-- ---- a block that holds nothing

still_behind : (at : Option ℕ) (i : ℕ) → IsStill i at → IsBehind at i 0 None
still_behind None i still = inl refl
still_behind (Some at) i still = (refl, still ∙ omega arith)

pub emptied_is : (column : State) (buffer : Buffer) (i : ℕ) → IsFor buffer (kind_of column.items) → 0 < places_of buffer → IsStill i (placed column) → IsBlock (emptied column buffer i)
emptied_is column buffer i kind some still = record {
  kind = kind;
  some = some;
  few = omega arith;
  behind = still_behind (placed column) i still;
  kept = λ k below. absurd (omega (arith, below));
  inside = none_inside buffer;
  known = tt;
}

holds_nothing : (file : List ℕ) (column : State) (buffer : Buffer) (i : ℕ) → StandsIn file column → Holds file (emptied column buffer i)
holds_nothing file column buffer i stands = record { stands = stands; items = λ k below. absurd (omega (arith, below)); fault = tt }

still_is : (column : State) (i : ℕ) → (placed column ≡ None) ⊎ (i ≡ i + 0)
still_is column i = inr (omega arith)

pub fills_not : (old new : SourceView) (before : Block) (column : State) (buffer : Buffer) (i want : ℕ) (lost : OpenFault) → places_of buffer ≡ places_of before.buffer → IsGrown old before.column i (room_of before.buffer) (room_of buffer)
    → GetsNot old before.column i (most_of before want) (room_of before.buffer) lost new column → FillsNot old before i want lost new (emptied column buffer i)
fills_not old new before column buffer i want lost places room g = record {
  next = (refl, still_is column i);
  none = refl;
  places = places;
  room = room;
  same = g.same;
  met = g.met;
  holds = told_map (λ file. StandsIn file before.column → StandsIn file column) (λ file. Holds file before → Holds file (emptied column buffer i)) old.held (λ file on is. holds_nothing file column buffer i (on is.stands)) g.stands;
  cause = g.cause;
}

pub opens : (s : Section) (f : ℕ) (field : Field) (fixed : Option Fixed) (places : ℕ) (column : State) (buffer : Buffer) → IsOpened s f field fixed column → places_of buffer ≡ places → room_of buffer ≡ first_room (item_kind field.kind) → OpensBlock s f field fixed places (emptied column buffer 0)
opens s f field fixed places column buffer is all room = record {
  column = is;
  is_new = (is.is_at, refl);
  none = refl;
  has_places = all;
  room = room;
  holds = λ file. holds_nothing file column buffer 0 (is.stands file);
}

pub kept_at : (b : Block) (i : ℕ) → IsBlock b → has_record b i ≡ true → IsKept (kind_of b.column.items) (held_item b (i - b.first))
kept_at b i is has = is.kept (i - b.first) (grind (arith, nat_tests))

-- What it is to put the rows of some records of a section.
use Rattle.std.specs.Prelude.{◌≡◌, ℕ, true, List, Option, Some, None, IfSome}
use Rattle.e57_base.specs.Count.{Rose}
use Rattle.e57_base.specs.Source.{SourceView}
use Rattle.e57_base.specs.Sink.{SinkView, Grows, GrowsByFront}
use Rattle.e57_base.specs.declared.fault.Fault.{Fault}
use Rattle.e57_base.specs.declared.fault.RunFault.{RunFault}
use Rattle.e57_base.specs.declared.fault.RunFault.TheVariants.{Refused, Source, Out, Memory, Ask}
use Rattle.e57_layout.specs.Values.{Value}
use Rattle.e57_stream.specs.Asking.{AsksMet}
use Rattle.e57_column.specs.Finding.{is_column_kind}
use Rattle.e57_blocks.specs.Fields.{Slice, OnSlice}
use Rattle.e57_rows.specs.Rows.{shown_row, rows_text, rows_fault}

-- the rows of a slice in a file, of items as they are shown, up to the first record with a fault
abbrev pub slice_text : (ℕ → Value → Value) → Slice → List ℕ → List ℕ
slice_text show a file = rows_text (shown_row show file a.section a.fixed a.asked) a.from a.count

-- the fault of the first of its records that has one
abbrev pub slice_fault : (ℕ → Value → Value) → Slice → List ℕ → Option Fault
slice_fault show a file = rows_fault (shown_row show file a.section a.fixed a.asked) a.from a.count

-- its rows were put
abbrev pub PutsText : (ℕ → Value → Value) → Slice → Option (List ℕ) → SinkView → SinkView → Type 0
PutsText show a held out out' = (text : List ℕ) × IfSome held (λ file. text ≡ slice_text show a file) × Grows out.written text out'.written

-- a prefix of them was
abbrev pub PutsFront : (ℕ → Value → Value) → Slice → Option (List ℕ) → SinkView → SinkView → Type 0
PutsFront show a held out out' = (text : List ℕ) × IfSome held (λ file. text ≡ slice_text show a file) × GrowsByFront out.written text out'.written

-- All its rows were put: none of its records has a fault. Only pages on the way to its items were asked for.
pub record PutsRows (show : ℕ → Value → Value) (a : Slice) (old new : SourceView) (out out' : SinkView) : Type 0 where
  pub met : AsksMet (OnSlice a) old new
  pub sound : IfSome old.held (λ file. slice_fault show a file ≡ None)
  pub wrote : PutsText show a old.held out out'

-- why they weren't: the fault of a record, and the rows before it were put; the source or the sink failed; or memory ran out
abbrev pub IsRowsCause : (ℕ → Value → Value) → Slice → SourceView → SourceView → SinkView → SinkView → RunFault → Type 0
IsRowsCause show a old new out out' (Refused found) = (is_column_kind found.kind ≡ true) × IfSome old.held (λ file. slice_fault show a file ≡ Some found) × PutsText show a old.held out out'
IsRowsCause show a old new out out' Source = Rose old.faults new.faults × PutsFront show a old.held out out'
IsRowsCause show a old new out out' Out = Rose out.faults out'.faults × PutsFront show a old.held out out'
IsRowsCause show a old new out out' Memory = PutsFront show a old.held out out'
IsRowsCause show a old new out out' (Ask why) = ⊥

pub record FailsRows (show : ℕ → Value → Value) (a : Slice) (old new : SourceView) (out out' : SinkView) (fault : RunFault) : Type 0 where
  pub met : AsksMet (OnSlice a) old new
  pub cause : IsRowsCause show a old new out out' fault

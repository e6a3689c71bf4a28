-- The steps of `extract`: what is asked is looked up in the tree, and then the rows are put.
use Rattle.std.specs.Prelude.{◌≡◌, ℕ, ◌+◌, ◌<◌, ◌≤◌, true, false, List, length, slice_get, Option, Some, None, IfSome, Ok, Err}
use Rattle.std.specs.List.{AllByRecursion}
use Rattle.e57_base.specs.Count.{Rose}
use Rattle.e57_base.specs.Source.{SourceView}
use Rattle.e57_base.specs.Sink.{SinkView, Grows, GrowsByFront}
use Rattle.e57_base.specs.declared.fault.RunFault.{RunFault}
use Rattle.e57_base.specs.declared.fault.RunFault.TheVariants.{Refused, Source, Out, Memory, Ask}
use Rattle.e57_layout.specs.declared.field.Field.{Field}
use Rattle.e57_elements.specs.declared.tree.RawNode.{RawNode}
use Rattle.e57_elements.specs.Tree.{Element, preorder}
use Rattle.e57_elements.specs.Lawful.{AreNodes}
use Rattle.e57_section.specs.Opening.{most_records}
use Rattle.e57_stream.specs.Asking.{AsksMet}
use Rattle.e57_tree.specs.Held.{clouds_of, cloud_fields}
use Rattle.e57_show.specs.declared.select.Selected.{Selected}
use Rattle.e57_show.specs.Streaming.{Streamed}
use Rattle.e57_show.specs.Extract.{Asked, Selection, select, is_rows_ask, is_rows_kind, selected_rows, selected_text, selected_fault, IsMetBy}

-- ---- the ask

-- what was looked up, of these fields
abbrev pub selection_of : Selected → List Field → Selection
selection_of s fields = record { cloud = s.cloud; fields = fields; numbers = s.numbers.items; from = s.from; count = s.count; decimal = s.decimal }

-- what is so of the fields of cloud k of the tree with these nodes
abbrev pub OfFields : List RawNode → ℕ → (List Field → Type 0) → Type 0
OfFields nodes k P = (e : Element) → nodes ≡ preorder e → (fields : List Field) → slice_get (cloud_fields e) k ≡ Some fields → P fields

-- The cloud is that of the tree with these nodes; the fields, of which there is one, and the records are some of it.
pub record IsOfCloud (nodes : List RawNode) (s : Selected) : Type 0 where
  pub are_nodes : AreNodes nodes
  pub there : (e : Element) → nodes ≡ preorder e → s.k < length (clouds_of e)
  pub fields : List Field
  pub has_fields : (e : Element) → nodes ≡ preorder e → slice_get (cloud_fields e) s.k ≡ Some fields
  pub few : s.cloud.count ≤ most_records
  pub left : s.from + s.count ≤ s.cloud.count
  pub some : 0 < length s.numbers.items
  pub numbers : OfFields nodes s.k (λ fields. AllByRecursion (λ f. f < length fields) s.numbers.items)

-- The tree with these nodes has what is asked for, which is this.
pub record IsSelected (nodes : List RawNode) (asked : Asked) (s : Selected) : Type 0 where
  pub of_cloud : IsOfCloud nodes s
  pub selects : (e : Element) → nodes ≡ preorder e → (fields : List Field) → slice_get (cloud_fields e) s.k ≡ Some fields → select asked e ≡ Ok (selection_of s fields)

-- why nothing was looked up: the tree doesn't have it, or memory ran out
abbrev pub IsUnselected : List RawNode → Asked → RunFault → Type 0
IsUnselected nodes asked (Refused found) = ⊥
IsUnselected nodes asked Source = ⊥
IsUnselected nodes asked Out = ⊥
IsUnselected nodes asked Memory = Unit {0}
IsUnselected nodes asked (Ask why) = (is_rows_ask asked why ≡ true) × ((e : Element) → nodes ≡ preorder e → select asked e ≡ Err why)

-- ---- the rows

-- the heading and the rows of a selection, up to the first record with a fault
abbrev pub selection_streamed : Selection → Streamed
selection_streamed s =
    record {
      is_faulty = λ file found. ⊥;
      is_named = λ kind. false;
      is_short = λ file why. ⊥;
      may_refuse = λ why. false;
      is_late = λ file found. selected_fault file s ≡ Some found;
      may_stop = is_rows_kind;
      is_output = λ file text. text ≡ selected_text file s;
      runs_out_midway = true;
    }

-- pages were asked for, each of the section's header or on the way to an asked item of an asked record, of which there is one
abbrev pub AsksSelected : Selection → SourceView → SourceView → Type 0
AsksSelected s old new = AsksMet (λ file p. IsMetBy file s p) old new

-- the rows were put
abbrev pub PutsAllRows : Selection → Option (List ℕ) → SinkView → SinkView → Type 0
PutsAllRows s held out out' = (text : List ℕ) × IfSome held (λ file. text ≡ selected_rows file s) × Grows out.written text out'.written

-- a prefix of them was
abbrev pub PutsFirstRows : Selection → Option (List ℕ) → SinkView → SinkView → Type 0
PutsFirstRows s held out out' = (text : List ℕ) × IfSome held (λ file. text ≡ selected_rows file s) × GrowsByFront out.written text out'.written

-- no record has a fault, and all rows were put
abbrev pub PutsRecords : Selection → SourceView → SinkView → SinkView → Type 0
PutsRecords s old out out' = IfSome old.held (λ file. selected_fault file s ≡ None) × PutsAllRows s old.held out out'

-- why they weren't: the fault of a record, and the rows before it were put; the source or the sink failed; or memory ran out
abbrev pub FailsRecords : Selection → SourceView → SourceView → SinkView → SinkView → RunFault → Type 0
FailsRecords s old new out out' (Refused found) = (is_rows_kind found.kind ≡ true) × IfSome old.held (λ file. selected_fault file s ≡ Some found) × PutsAllRows s old.held out out'
FailsRecords s old new out out' Source = Rose old.faults new.faults × PutsFirstRows s old.held out out'
FailsRecords s old new out out' Out = Rose out.faults out'.faults × PutsFirstRows s old.held out out'
FailsRecords s old new out out' Memory = PutsFirstRows s old.held out out'
FailsRecords s old new out out' (Ask why) = ⊥

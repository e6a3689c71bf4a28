-- How a file is opened, from how its text was read and its nodes were judged.
use Rattle.std.proofs.Common.{◌≡◌, ℕ, ◌*◌, ◌/◌, slice_get, Bool, true, false, ◌||◌, List, Option, Some, None, Result, Ok, Err, inr, refl, sym, subst, ◌∙◌}
use Rattle.std.specs.Prelude.{IfSome, IfErr, MatchOption, IsErrAnd}
use Rattle.e57_base.specs.Fault.{text_as_open}
use Rattle.e57_base.specs.Source.{SourceView}
use Rattle.e57_base.proofs.Told.{told_both}
use Rattle.e57_base.specs.declared.fault.Fault.{Fault}
use Rattle.e57_base.specs.declared.fault.OpenFault.{OpenFault}
use Rattle.e57_base.specs.declared.fault.OpenFault.TheVariants.{Refused}
use Rattle.e57_base.specs.declared.fault.TextFault.{TextFault}
use Rattle.e57_base.specs.declared.fault.TextFault.TheVariants as text
use Rattle.e57_base.specs.declared.kind.Kind.{Kind}
use Rattle.e57_base.specs.declared.kind.Kind.TheVariants.{XmlPlace, XmlLimit}
use Rattle.e57_page.specs.Pages.{Reading}
use Rattle.e57_page.specs.XmlSection.{xml_span_fault}
use Rattle.e57_elements.specs.declared.tree.RawNode.{RawNode}
use Rattle.e57_elements.specs.Tree.{Element, preorder}
use Rattle.e57_elements.specs.Lawful.{AreNodes}
use Rattle.e57_elements.specs.Spells.{Reads}
use Rattle.e57_layout.specs.declared.field.Field.{Field}
use Rattle.e57_nodes.specs.Shape.{shape_of}
use Rattle.e57_nodes.specs.Typed.{typed_fault}
use Rattle.e57_tree.specs.Judged.{IsJudged}
use Rattle.e57_file.specs.Text.{xml_fault, section_text, is_text_kind, is_place_kind, IsPastPlace, JudgesPlace, IsTextRead}
use Rattle.e57_file.specs.Opened.{IsTreeFault, is_node_kind, HasNodes, IsOpenCause, field_number}
use Rattle.e57_file.proofs.NodeKinds.{node_kind}

-- ---- the place of the section, judged by the reading of the text

-- the section's place, as it is judged, where the answer is another one
abbrev pub JudgedBy : {S T : Type 0} → Reading S → Result T OpenFault → Reading S → Option Fault → Type 0
JudgedBy old result new outcome = MatchOption outcome (IfErr result IsPastPlace) (λ found. (result ≡ Err (Refused found)) × (new ≡ old))

not_both : {A : Type 0} (result : Result A OpenFault) (x : A) (fault : OpenFault) → result ≡ Ok x → result ≡ Err fault → ⊥
not_both {A} result x fault is also = let e : ◌≡◌ {A = Result A OpenFault} (Ok x) (Err fault) = sym is ∙ also in cc

-- the text was read, and then there was this fault
pub judged_later : {S A B : Type 0} (old new : Reading S) (x : A) (later : Result B OpenFault) → JudgesPlace {S = S} {T = A} old (Ok x) new → IfErr later IsPastPlace → JudgesPlace old later new
judged_later {S} {A} {B} old new x later judged past = elim (xml_span_fault old.header (old.length / 1024 * 1020)) as (λ (o : Option Fault). JudgedBy {S = S} {T = A} old (Ok x) new o → JudgedBy old later new o) [
  | None ↦ λ _. past
  | Some found ↦ λ refused. absurd (not_both (Ok x) x (Refused found) refl refused.0)
] judged

-- ---- a fault that is handed on

pub is_past : {B : Type 0} (fault : OpenFault) (result : Result B OpenFault) → IsErrAnd result (λ f. f ≡ fault) → IsPastPlace fault → IfErr result IsPastPlace
is_past fault (Ok x) is past = tt
is_past fault (Err f) is past = subst IsPastPlace (sym is) past

-- ---- kinds

past_place : (k : Kind) → is_node_kind k ≡ true → is_place_kind k ≡ false
past_place XmlPlace e = absurd cc
past_place XmlLimit e = absurd cc
past_place other e = refl

left_kind : (a b : Bool) → a ≡ true → (a || b) ≡ true
left_kind true b e = refl
left_kind false b e = absurd cc

right_kind : (a b : Bool) → b ≡ true → (a || b) ≡ true
right_kind true b e = refl
right_kind false b e = e

-- ---- the nodes

-- What judging the nodes found is so of each tree of these nodes.
abbrev pub AreJudged : List RawNode → Result (List RawNode) TextFault → Type 0
AreJudged raw result = (e : Element) → raw ≡ preorder e → IsJudged result (typed_fault (shape_of e))

pub late_past : (raw : List RawNode) (fault : TextFault) → AreNodes raw → AreJudged raw (Err fault) → IsPastPlace (text_as_open fault)
late_past raw (text.Refused found) nodes judged = past_place found.kind (node_kind None 0 (shape_of nodes.tree) found (judged nodes.tree nodes.in_preorder))
late_past raw text.Memory nodes judged = tt

-- a node has a fault
pub late_cause : (old new : SourceView) (raw : List RawNode) (fault : TextFault) → AreNodes raw → IsTextRead old raw → AreJudged raw (Err fault) → IsOpenCause old (text_as_open fault) new
late_cause old new raw (text.Refused found) nodes reads judged = (
  right_kind (is_text_kind found.kind) (is_node_kind found.kind) (node_kind None 0 (shape_of nodes.tree) found (judged nodes.tree nodes.in_preorder)),
  told_both (λ file. xml_fault file ≡ None) (λ file. Reads (section_text file) raw) (λ file. IsTreeFault file found) old.held
      (λ file sound read. inr (read.tree, record { sound = sound; spells = read.spells; is_lawful = read.is_lawful }, judged read.tree read.in_preorder))
      reads.sound reads.tree,
)
late_cause old new raw text.Memory nodes reads judged = tt

-- the nodes have no fault
pub has_nodes : (old : SourceView) (raw nodes x : List RawNode) → IsTextRead old raw → nodes ≡ raw → AreJudged raw (Ok x) → IfSome old.held (λ file. HasNodes file nodes)
has_nodes old raw nodes x reads same judged =
    told_both (λ file. xml_fault file ≡ None) (λ file. Reads (section_text file) raw) (λ file. HasNodes file nodes) old.held
    (λ file sound read. record {
      tree = read.tree;
      in_preorder = same ∙ read.in_preorder;
      has = record { sound = sound; spells = read.spells; is_lawful = read.is_lawful };
      typed = judged read.tree read.in_preorder;
    })
    reads.sound reads.tree

-- ---- fields by their paths

-- the fields of a cloud are those that were looked through
pub number_of : (rows : List (List Field)) (k : ℕ) (here fields : List Field) (path : List ℕ) (number : Option ℕ) → slice_get rows k ≡ Some here → number ≡ field_number path here → slice_get rows k ≡ Some fields
    → number ≡ field_number path fields
number_of rows k here fields path number is so also =
    let same : here ≡ fields = some_same here fields (sym is ∙ also) in
    subst (λ (xs : List Field). number ≡ field_number path xs) same so where
      some_same : (a b : List Field) → ◌≡◌ {A = Option (List Field)} (Some a) (Some b) → a ≡ b
      some_same a b e = cc

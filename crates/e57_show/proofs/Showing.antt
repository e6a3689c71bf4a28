-- What is shown of a file that was read.
use Rattle.std.proofs.Common.{◌≡◌, ℕ, List, [], ◌∷◌, ◌++◌, Option, Some, None, inl, inr, ap, ◌∙◌}
use Rattle.e57_base.specs.Source.{SourceView}
use Rattle.e57_base.proofs.Told.{told_map, told_both}
use Rattle.e57_base.specs.declared.fault.Fault.{Fault}
use Rattle.e57_elements.specs.declared.tree.RawNode.{RawNode}
use Rattle.e57_elements.specs.Tree.{Element, preorder}
use Rattle.e57_elements.specs.Lawful.{IsLawful}
use Rattle.e57_elements.specs.Spells.{Spells, Reads}
use Rattle.e57_elements.specs.Spelling.{spelling}
use Rattle.e57_elements.specs.Fault.{IsFirstFault}
use Rattle.e57_nodes.specs.Shape.{shape_of}
use Rattle.e57_nodes.specs.Typed.{typed_fault}
use Rattle.e57_file.specs.Text.{xml_fault, section_text, IsTextRead}
use Rattle.e57_file.specs.Opened.{HasXmlTree, HasNodes}
use Rattle.e57_show.specs.Showing.{HasNoFault, ShowsText}
use Rattle.e57_show.specs.Info.{IsShown, info_shown}
use Rattle.e57_show.specs.Listing.{list_text, IsListed, list_shown}
use Rattle.std.specs.Prelude.{IfSome}

-- no text has a tree and a fault
abbrev pub IsEither : Type 0
IsEither = (text : List ℕ) (tree : Element) (fault : Fault) → Spells text tree → IsLawful tree → IsFirstFault text fault → ⊥

-- no text has two trees
abbrev pub IsOneTree : Type 0
IsOneTree = (text : List ℕ) (a b : Element) → Spells text a → Spells text b → a ≡ b

no_text_fault : (file : List ℕ) (tree : Element) → IsEither → HasXmlTree file tree → HasNoFault info_shown file
no_text_fault file tree either has found (inl early) = absurd (not_both (xml_fault file) found has.sound early) where
  not_both : (o : Option Fault) (x : Fault) → o ≡ None → o ≡ Some x → ⊥
  not_both o x none some = cc
no_text_fault file tree either has found (inr (before, late)) = either (section_text file) tree found has.spells has.is_lawful late

pub shows : (old : SourceView) (nodes : List RawNode) (bytes text : List ℕ) → IsEither → IsTextRead old nodes → ((e : Element) → nodes ≡ preorder e → bytes ≡ spelling e) → text ≡ bytes ++ 10 ∷ [] → ShowsText info_shown old text
shows old nodes bytes text either read spelled whole =
    record {
      sound = told_both (λ file. xml_fault file ≡ None) (λ file. Reads (section_text file) nodes) (λ file. HasNoFault info_shown file) old.held
          (λ file sound is. no_text_fault file is.tree either (record { sound = sound; spells = is.spells; is_lawful = is.is_lawful })) read.sound read.tree;
      output = told_map (λ file. Reads (section_text file) nodes) (λ file. IsShown file text) old.held (λ file is. (is.tree, is.spells, whole ∙ ap (λ (b : List ℕ). b ++ 10 ∷ []) (spelled is.tree is.in_preorder))) read.tree;
    }

-- ---- the clouds and blobs

pub no_tree_fault : (file : List ℕ) (nodes : List RawNode) → IsEither → IsOneTree → HasNodes file nodes → HasNoFault list_shown file
no_tree_fault file nodes either one read found (inl early) = no_text_fault file read.tree either read.has found early
no_tree_fault file nodes either one read found (inr (tree, has, late)) =
    let same = one (section_text file) tree read.tree has.spells read.has.spells in
    not_both (typed_fault (shape_of tree)) found (ap (λ (e : Element). typed_fault (shape_of e)) same ∙ read.typed) late where
      not_both : (o : Option Fault) (x : Fault) → o ≡ None → o ≡ Some x → ⊥
      not_both o x none some = cc

pub lists : (old : SourceView) (nodes : List RawNode) (text : List ℕ) → IsEither → IsOneTree → IfSome old.held (λ file. HasNodes file nodes) → ((e : Element) → nodes ≡ preorder e → text ≡ list_text (shape_of e)) → ShowsText list_shown old text
lists old nodes text either one read listed =
    record {
      sound = told_map (λ file. HasNodes file nodes) (λ file. HasNoFault list_shown file) old.held (λ file is. no_tree_fault file nodes either one is) read;
      output = told_map (λ file. HasNodes file nodes) (λ file. IsListed file text) old.held (λ file is. (is.tree, is.has, listed is.tree is.in_preorder)) read;
    }

-- What is known of an opened file, and why a file isn't opened past its page 0.
use Rattle.std.specs.Prelude.{◌≡◌, ℕ, ◌⊎◌, Bool, true, false, ◌||◌, List, Option, Some, None, IfSome}
use Rattle.std.specs.List.{position_from}
use Rattle.std.specs.Str.{bytes_eq}
use Rattle.e57_base.specs.Count.{Rose}
use Rattle.e57_base.specs.Source.{SourceView}
use Rattle.e57_base.specs.declared.fault.Fault.{Fault}
use Rattle.e57_base.specs.declared.fault.OpenFault.{OpenFault}
use Rattle.e57_base.specs.declared.fault.OpenFault.TheVariants.{Refused, Source, Memory}
use Rattle.e57_base.specs.declared.kind.Kind.{Kind}
use Rattle.e57_base.specs.declared.kind.Kind.TheVariants.{NodeType, NodeAttr, NodeChild, NodeName, Codecs, Prototype, FieldCount, Limits, RecordLimit}
use Rattle.e57_elements.specs.declared.tree.RawNode.{RawNode}
use Rattle.e57_elements.specs.Tree.{Element, preorder}
use Rattle.e57_elements.specs.Lawful.{IsLawful}
use Rattle.e57_elements.specs.Spells.{Spells}
use Rattle.e57_layout.specs.declared.field.Field.{Field}
use Rattle.e57_nodes.specs.Shape.{shape_of}
use Rattle.e57_nodes.specs.Typed.{typed_fault}
use Rattle.e57_file.specs.Text.{xml_fault, section_text, IsTextFault, is_text_kind}

-- The XML section has its place and its pages, and its text spells this lawful tree.
pub record HasXmlTree (file : List ℕ) (tree : Element) : Type 0 where
  pub sound : xml_fault file ≡ None
  pub spells : Spells (section_text file) tree
  pub is_lawful : IsLawful tree

-- The first fault of the section, its text included, or else of a node of the tree that the text spells.
abbrev pub IsTreeFault : List ℕ → Fault → Type 0
IsTreeFault file found = IsTextFault file found ⊎ ((tree : Element) × HasXmlTree file tree × (typed_fault (shape_of tree) ≡ Some found))

-- a kind of fault that a node can have
abbrev pub is_node_kind : Kind → Bool
is_node_kind NodeType = true
is_node_kind NodeAttr = true
is_node_kind NodeChild = true
is_node_kind NodeName = true
is_node_kind Codecs = true
is_node_kind Prototype = true
is_node_kind FieldCount = true
is_node_kind Limits = true
is_node_kind RecordLimit = true
is_node_kind _ = false

-- a kind of fault of the section or of a node
abbrev pub is_tree_kind : Kind → Bool
is_tree_kind kind = is_text_kind kind || is_node_kind kind

-- These are the nodes of the file's tree, and none has a fault.
pub record HasNodes (file : List ℕ) (nodes : List RawNode) : Type 0 where
  pub tree : Element
  pub in_preorder : nodes ≡ preorder tree
  pub has : HasXmlTree file tree
  pub typed : typed_fault (shape_of tree) ≡ None

-- why the file was not opened: its first fault, or the source failed, or memory ran out
abbrev pub IsOpenCause : SourceView → OpenFault → SourceView → Type 0
IsOpenCause old (Refused found) new = (is_tree_kind found.kind ≡ true) × IfSome old.held (λ file. IsTreeFault file found)
IsOpenCause old Source new = Rose old.faults new.faults
IsOpenCause old Memory new = Unit {0}

-- the number of the first field with this path, from 0
abbrev pub field_number : List ℕ → List Field → Option ℕ
field_number path fields = position_from (λ (field : Field). bytes_eq field.path path) 0 fields

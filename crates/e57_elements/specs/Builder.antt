-- What the builder of a tree keeps of the machine's state.
use Rattle.std.specs.Prelude.{◌≡◌, ℕ, ◌+◌, ◌≤◌, nat_lt, ◌&&◌, Bool, true, false, List, [], ◌∷◌, ◌++◌, length, Some, None, Result, Ok, Err, if◌then◌else◌}
use Rattle.e57_base.specs.Fault.{fault}
use Rattle.e57_base.specs.declared.fault.TextFault.{TextFault}
use Rattle.e57_base.specs.declared.fault.TextFault.TheVariants as failure
use Rattle.e57_base.specs.declared.kind.Kind.TheVariants as kind
use Rattle.e57_pieces.specs.declared.piece.Piece.{Piece}
use Rattle.e57_pieces.specs.Cut.{IsCut}
use Rattle.e57_elements.specs.declared.tree.RawNode.{RawNode}
use Rattle.e57_elements.specs.declared.builder.Mark.{Mark}
use Rattle.e57_elements.specs.declared.builder.Builder.{Builder}
use Rattle.e57_elements.specs.declared.builder.TakeFault.{TakeFault}
use Rattle.e57_elements.specs.declared.builder.TakeFault.TheVariants.{Nest, Limit, Memory}
use Rattle.e57_elements.specs.Limits.{max_elements}
use Rattle.e57_elements.specs.Tree.{Element, preorder}
use Rattle.e57_elements.specs.Nested.{only_space, Nested}
use Rattle.e57_elements.specs.Lawful.{IsLawful}
use Rattle.e57_elements.specs.Fault.{limit, IsBodyFault}
use Rattle.e57_elements.specs.Machine.{Open, State, reading, done, nodes_of, state_nodes, step, passes_in}

-- where an open element's node stands, and the text so far
abbrev pub mark_of : Open → List Open → Mark
mark_of top outer = record { place = length (nodes_of outer); text = top.text }

abbrev pub marks_of : List Open → List Mark
marks_of [] = []
marks_of (top ∷ outer) = marks_of outer ++ mark_of top outer ∷ []

abbrev pub state_marks : State → List Mark
state_marks (reading opens) = marks_of opens
state_marks (done e) = []

abbrev pub is_done : State → Bool
is_done (reading opens) = false
is_done (done e) = true

-- The builder is in the state.
pub record Keeps (builder : Builder) (state : State) : Type 0 where
  pub nodes : builder.nodes.items ≡ state_nodes state
  pub marks : builder.marks.items ≡ state_marks state
  pub done : builder.done ≡ is_done state
  pub few : length (state_nodes state) ≤ max_elements

-- it is in some state
pub record IsBuilder (builder : Builder) : Type 0 where
  pub state : State
  pub keeps : Keeps builder state

-- it is in some state, and where the root has ended its tree is lawful
pub record IsFinished (builder : Builder) : Type 0 where
  pub state : State
  pub keeps : Keeps builder state
  pub is_lawful : (tree : Element) → state ≡ done tree → IsLawful tree

-- What a builder that was in the state did with a piece.
abbrev pub Takes : {T : Type 0} → State → Piece → Result T TakeFault → Builder → Type 0
Takes before piece (Ok x) new = (after : State) × (step before piece ≡ Some after) × (passes_in before piece ≡ None) × Keeps new after
Takes before piece (Err Nest) new = step before piece ≡ None
Takes before piece (Err (Limit b)) new = (after : State) × (step before piece ≡ Some after) × (passes_in before piece ≡ Some b)
Takes before piece (Err Memory) new = Unit {0}

-- Whether an element with so many attributes may begin in the state.
abbrev pub Admits : {T : Type 0} → State → ℕ → Result T TakeFault → Type 0
Admits (reading opens) attrs (Ok x) = limit attrs (length opens + 1) (length (nodes_of opens) + 1) ≡ None
Admits (reading opens) attrs (Err Nest) = ⊥
Admits (reading opens) attrs (Err (Limit b)) = limit attrs (length opens + 1) (length (nodes_of opens) + 1) ≡ Some b
Admits (done e) attrs (Ok x) = ⊥
Admits (done e) attrs (Err Nest) = Unit {0}
Admits (done e) attrs (Err (Limit b)) = ⊥
Admits state attrs (Err Memory) = ⊥

-- the node of an ended element
abbrev pub ended_node : RawNode → List RawNode → List ℕ → RawNode
ended_node node below text = record { name = node.name; attrs = node.attrs; text = if nat_lt 1 (length below + 1) && only_space text then [] else text; size = length below + 1 }

-- ---- what comes of it

-- the fault of a piece at this byte that wasn't taken
abbrev pub take_fault : TakeFault → ℕ → TextFault
take_fault Nest byte = failure.Refused (fault kind.Nest byte 0)
take_fault (Limit b) byte = failure.Refused (fault kind.TreeLimit byte b)
take_fault Memory byte = failure.Memory

-- The nodes are those of a lawful tree to which the pieces of the body nest.
pub record ReadsBody (body : List ℕ) (nodes : List RawNode) : Type 0 where
  pub tree : Element
  pub pieces : List Piece
  pub is_cut : IsCut body pieces []
  pub nested : Nested pieces tree
  pub in_preorder : nodes ≡ preorder tree
  pub is_lawful : IsLawful tree

-- how the reading of a body fails in a text of this length
abbrev pub IsBodyFailure : ℕ → List ℕ → TextFault → Type 0
IsBodyFailure len body (failure.Refused found) = IsBodyFault len body found
IsBodyFailure len body failure.Memory = Unit {0}

-- What comes of a builder where no piece is spelled at this byte, with or without text left.
abbrev pub Ends : State → Bool → ℕ → Result (List RawNode) TextFault → Type 0
Ends state false byte result = result ≡ Err (failure.Refused (fault kind.Piece byte 0))
Ends (reading opens) true byte result = result ≡ Err (failure.Refused (fault kind.Nest byte 0))
Ends (done e) true byte result = result ≡ Ok (preorder e)

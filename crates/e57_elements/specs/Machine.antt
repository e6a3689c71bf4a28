-- A machine that takes the pieces one after another, and knows the elements that are open.
use Rattle.std.specs.Prelude.{ℕ, ◌+◌, List, [], ◌∷◌, ◌++◌, length, Option, Some, None, if◌then◌else◌}
use Rattle.std.specs.Str.{bytes_eq}
use Rattle.e57_pieces.specs.declared.piece.Attr.{Attr}
use Rattle.e57_pieces.specs.declared.piece.Piece.{Piece}
use Rattle.e57_pieces.specs.declared.piece.Piece.TheVariants.{Start, Empty, End, Comment, CData, Text}
use Rattle.e57_elements.specs.declared.tree.RawNode.{RawNode}
use Rattle.e57_elements.specs.Tree.{Element, element, Elements, none, more, preorder, preorder_all}
use Rattle.e57_elements.specs.Nested.{only_space, kept}
use Rattle.e57_elements.specs.Fault.{limit}

-- elements after elements
abbrev pub join : Elements → Elements → Elements
join none es = es
join (more d ds) es = more d (join ds es)

-- an open element: its name, its attributes, and the children and the text so far
pub record Open : Type 0 where
  pub name : List ℕ
  pub attrs : List Attr
  pub children : Elements
  pub text : List ℕ

-- the open elements, the innermost first, before the root ends; or the tree
pub data State : Type 0 where
  reading : List Open → State
  done : Element → State

abbrev pub begin : List ℕ → List Attr → Open
begin name attrs = record { name = name; attrs = attrs; children = none; text = [] }

abbrev pub with_text : List ℕ → Open → Open
with_text text top = record { name = top.name; attrs = top.attrs; children = top.children; text = top.text ++ text }

abbrev pub with_child : Element → Open → Open
with_child e top = record { name = top.name; attrs = top.attrs; children = join top.children (more e none); text = top.text }

-- the element that ends
abbrev pub ended : Open → Element
ended top = element top.name top.attrs (kept top.children top.text) top.children

-- the innermost open element gets a child, or the root ends
abbrev pub put : Element → List Open → State
put e [] = done e
put e (top ∷ outer) = reading (with_child e top ∷ outer)

abbrev pub end_tag : List ℕ → List Open → Option State
end_tag name [] = None
end_tag name (top ∷ outer) = if bytes_eq top.name name then Some (put (ended top) outer) else None

-- text that stands in the innermost open element
abbrev pub inner_text : List ℕ → List Open → Option State
inner_text text [] = None
inner_text text (top ∷ outer) = Some (reading (with_text text top ∷ outer))

-- white space alone may stand outside of all elements
abbrev pub outer_text : List ℕ → State → Option State
outer_text text state = if only_space text then Some state else None

abbrev pub text_run : List ℕ → List Open → Option State
text_run text [] = outer_text text (reading [])
text_run text (top ∷ outer) = inner_text text (top ∷ outer)

-- the state after a piece, none where no nested list goes on so
abbrev pub step : State → Piece → Option State
step (reading opens) (Start name attrs) = Some (reading (begin name attrs ∷ opens))
step (reading opens) (Empty name attrs) = Some (put (element name attrs [] none) opens)
step (reading opens) (End name) = end_tag name opens
step (reading opens) Comment = Some (reading opens)
step (reading opens) (CData text) = inner_text text opens
step (reading opens) (Text text) = text_run text opens
step (done e) (Start name attrs) = None
step (done e) (Empty name attrs) = None
step (done e) (End name) = None
step (done e) Comment = Some (done e)
step (done e) (CData text) = None
step (done e) (Text text) = outer_text text (done e)

abbrev pub step_on : Option State → Piece → Option State
step_on None piece = None
step_on (Some state) piece = step state piece

-- the state after pieces
abbrev pub run : Option State → List Piece → Option State
run state [] = state
run state (piece ∷ pieces) = run (step_on state piece) pieces

-- ---- the nodes so far

-- an open element, whose text and size aren't known yet
abbrev pub open_node : Open → RawNode
open_node top = record { name = top.name; attrs = top.attrs; text = []; size = 0 }

abbrev pub nodes_of : List Open → List RawNode
nodes_of [] = []
nodes_of (top ∷ outer) = nodes_of outer ++ (open_node top ∷ preorder_all top.children)

abbrev pub state_nodes : State → List RawNode
state_nodes (reading opens) = nodes_of opens
state_nodes (done e) = preorder e

-- how many elements are open
abbrev pub state_depth : State → ℕ
state_depth (reading opens) = length opens
state_depth (done e) = 0

-- the first limit that a piece passes in the state
abbrev pub passes_in : State → Piece → Option ℕ
passes_in state (Start name attrs) = limit (length attrs) (state_depth state + 1) (length (state_nodes state) + 1)
passes_in state (Empty name attrs) = limit (length attrs) (state_depth state + 1) (length (state_nodes state) + 1)
passes_in state (End name) = None
passes_in state Comment = None
passes_in state (CData text) = None
passes_in state (Text text) = None

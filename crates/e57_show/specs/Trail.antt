-- The way from the root of a tree down to one of its nodes, and what of the tree comes after it.
use Rattle.std.specs.Prelude.{◌≡◌, ℕ, ◌+◌, ◌<◌, ◌≤◌, List, [], ◌∷◌, ◌++◌, length, take, drop, reverse, Option, Some, None}
use Rattle.e57_elements.specs.declared.tree.RawNode.{RawNode}
use Rattle.e57_nodes.specs.Facts.{type_in}
use Rattle.e57_nodes.specs.Paths.{counts_children, paths_from, paths_from_all, path_of}
use Rattle.e57_tree.specs.Flat.{raw_at, shape_in, shapes_between, end_of, AreElements}
use Rattle.e57_show.specs.declared.trail.Mark.{Mark}
use Rattle.e57_show.specs.declared.trail.Trail.{Trail}

-- the element at this node before its first child, with a path of so many bytes
abbrev pub first_mark : List RawNode → ℕ → ℕ → Mark
first_mark nodes n own = record { end = end_of nodes n; own = own; counted = counts_children (type_in (raw_at nodes n).attrs); position = 0 }

-- the element before its next child
abbrev pub next_mark : Mark → Mark
next_mark mark = record { end = mark.end; own = mark.own; counted = mark.counted; position = mark.position + 1 }

-- the paths of the nodes from n on that stand below an element, whose own path is the front of the text
abbrev pub paths_below : List RawNode → List ℕ → Mark → ℕ → List (List ℕ)
paths_below nodes text mark n = paths_from_all mark.counted (take mark.own text) mark.position (shapes_between nodes n mark.end)

-- the paths of all nodes from n on, where these elements are open, the innermost first
abbrev pub paths_left : List RawNode → List ℕ → List Mark → ℕ → List (List ℕ)
paths_left nodes text [] n = []
paths_left nodes text (mark ∷ outer) n = paths_below nodes text mark n ++ paths_left nodes text outer mark.end

-- These elements are open at n, the innermost first: each begins its next child there or where the one in it ends. None
-- has a path longer than this, nor than that of one in it.
abbrev pub AreOpen : List RawNode → ℕ → List Mark → ℕ → Type 0
AreOpen nodes longest [] n = length nodes ≤ n
AreOpen nodes longest (mark ∷ outer) n =
    (mark.own ≤ longest) × (mark.position ≤ n) × AreElements nodes n mark.end × AreOpen nodes mark.own outer mark.end

-- the path of the node with this number
abbrev pub path_at : List RawNode → ℕ → List ℕ
path_at nodes n = path_of (shape_in nodes 0) n

-- The trail stands at a node of these, and its text is the path of that node.
pub record IsTrail (nodes : List RawNode) (trail : Trail) : Type 0 where
  pub path : trail.path.items ≡ path_at nodes trail.node
  pub are_open : AreOpen nodes (length trail.path.items) (reverse trail.marks.items) (trail.node + 1)
  pub left : drop (trail.node + 1) (paths_from [] (shape_in nodes 0)) ≡ paths_left nodes trail.path.items (reverse trail.marks.items) (trail.node + 1)

-- Of the elements that are open at n, the innermost one that doesn't end there, and those around it.
abbrev pub IsParent : List RawNode → List ℕ → ℕ → List Mark → ℕ → Option Mark → List Mark → Type 0
IsParent nodes text longest marks n None outer = length nodes ≤ n
IsParent nodes text longest marks n (Some mark) outer =
    (n < mark.end) × AreOpen nodes longest (mark ∷ outer) n × (paths_left nodes text marks n ≡ paths_left nodes text (mark ∷ outer) n)

-- of the elements that are open at n, whatever the nodes and the text
abbrev pub GivesParent : List Mark → ℕ → Option Mark → List Mark → Type 0
GivesParent marks n found outer =
    (nodes : List RawNode) (text : List ℕ) (longest : ℕ) → AreOpen nodes longest marks n → IsParent nodes text longest marks n found outer

-- What an edit of a tree gives.
use Rattle.std.specs.Prelude.{◌≡◌, List, Result, IfOk}
use Rattle.e57_elements.specs.declared.tree.RawNode.{RawNode}
use Rattle.e57_elements.specs.Tree.{Element, preorder}

-- The tree with these nodes is changed so, unless memory runs out.
abbrev pub Gives : {F : Type 0} → (Element → Element) → List RawNode → Result (List RawNode) F → Type 0
Gives change nodes result = (e : Element) → nodes ≡ preorder e → IfOk result (λ new. new ≡ preorder (change e))

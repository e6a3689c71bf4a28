use Rattle.std.proofs.Common.{◌≡◌, ◌-◌, ◌<◌, ◌++◌, List, drop, length}
use Rattle.e57_elements.specs.declared.tree.RawNode.{RawNode}
use Rattle.e57_elements.specs.Tree.{Element, preorder}
use Rattle.e57_elements.proofs.Elements.{children_of, Left}
use Rattle.e57_elements.proofs.write.+write_element.Given as goal

abbrev pub decreases-write_element : goal.decreases-write_element
decreases-write_element l = length l.tree.now - l.place

abbrev pub decreases-loop-child : goal.decreases-loop-child
decreases-loop-child l = l.end - l.child

abbrev pub invariant-loop-child : goal.invariant-loop-child
invariant-loop-child l = record {
  after_place : l.place < l.child;
  goes_on : (e : Element) (rest : List RawNode) → drop l.place l.tree ≡ preorder e ++ rest → Left l.tree l.child l.end l.initial.out.items l.out.items (children_of e);
}

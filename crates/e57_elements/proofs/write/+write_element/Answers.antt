use Rattle.std.proofs.Common.{ℕ, List, ◌+◌, length, sym, ap, ◌∙◌, eqb, true, false, ◌≡◌, ◌++◌, codes, rules, arith}
use Rattle.e57_elements.specs.Spelling.{text_byte, written}
use Rattle.e57_elements.specs.declared.tree.RawNode.{RawNode}
use Rattle.e57_elements.proofs.Elements.{children_of, root, bare, stands_within, size_some, node_is, all_left, next_stands, fewer_left, none_left, is_bare_node, not_bare_size, not_bare_text, bare_written, full_written, on_ok}
use Rattle.e57_elements.proofs.write.+write_element.Goals.{else-node-eq-LEAF-via-then-node-eq-LEAF+else-is_empty, else-node-eq-LEAF-via-else-node-eq-LEAF}
use Rattle.e57_elements.proofs.write.+write_element.Goals as goal

pub node-node-requires : goal.node-node-requires
node-node-requires t c =
    let h = c.requires.stands in
    let w = stands_within c.args.tree.now c.args.place h.tree h.rest h.parts in
    let s = size_some h.tree in
    omega arith

pub returns-then-is_empty : goal.returns-then-is_empty
returns-then-is_empty t c e rest parts =
    let node = c.node-node.result.now in
    let is = node_is c.args.tree.now c.args.place node e rest c.node-node.ensures parts in
    let empty : eqb (length node.text) 0 ≡ true = ap (λ (bs : List ℕ). eqb (length bs) 0) (sym c.as_slice.ensures) ∙ sym c.is_empty.ensures ∙ c.if-is_empty.true in
    bare_written e node c.args.out.now.items c.write_tag.new.out.items c.extend_from_slice.new.self.items is
    (is_bare_node e node is c.if-node-eq-LEAF.true empty) c.in_ok-write_tag.ensures (search rules)

pub overflow_add-end : goal.overflow_add-end
overflow_add-end t c =
    let h = c.requires.stands in
    let w = stands_within c.args.tree.now c.args.place h.tree h.rest h.parts in
    let n : c.node-node.result.now.size ≡ (root h.tree).size = ap (λ (x : RawNode). x.size) (node_is c.args.tree.now c.args.place c.node-node.result.now h.tree h.rest c.node-node.ensures h.parts) in
    let few = c.requires.few in
    omega arith

pub overflow_add-child : goal.overflow_add-child
overflow_add-child t c =
    let h = c.requires.stands in
    let w = stands_within c.args.tree.now c.args.place h.tree h.rest h.parts in
    let s = size_some h.tree in
    let few = c.requires.few in
    omega arith

pub loop-child-init : goal.loop-child-init
loop-child-init t c = record {
  after_place = omega arith;
  goes_on = λ e rest parts. all_left c.args.tree.now c.args.place c.node-node.result.now e rest c.write_text.new.out.items c.node-node.ensures parts;
}

pub write_element-requires : goal.write_element-requires
write_element-requires t c =
    let h = c.requires.stands in
    let l = c.loop-child.invariant.goes_on h.tree h.rest h.parts in
    let stands = next_stands c.args.tree.now c.loop-child.child (c.args.place + c.node-node.result.now.size) c.write_text.new.out.items c.loop-child.out.items (children_of h.tree) l c.loop-child-test.true in
    let w = stands_within c.args.tree.now c.loop-child.child stands.tree stands.rest stands.parts in
    let s = size_some stands.tree in
    let past = c.loop-child.invariant.after_place in
    (omega arith, (stands, c.requires.few))

pub node-requires : goal.node-requires
node-requires t c =
    let h = c.requires.stands in
    let l = c.loop-child.invariant.goes_on h.tree h.rest h.parts in
    let stands = next_stands c.args.tree.now c.loop-child.child (c.args.place + c.node-node.result.now.size) c.write_text.new.out.items c.loop-child.out.items (children_of h.tree) l c.loop-child-test.true in
    let w = stands_within c.args.tree.now c.loop-child.child stands.tree stands.rest stands.parts in
    let s = size_some stands.tree in
    omega arith

pub loop-child-smaller : goal.loop-child-smaller
loop-child-smaller t c =
    let h = c.requires.stands in
    let l = c.loop-child.invariant.goes_on h.tree h.rest h.parts in
    let stands = next_stands c.args.tree.now c.loop-child.child (c.args.place + c.node-node.result.now.size) c.write_text.new.out.items c.loop-child.out.items (children_of h.tree) l c.loop-child-test.true in
    let n : c.node.result.now.size ≡ (root stands.tree).size = ap (λ (x : RawNode). x.size) (node_is c.args.tree.now c.loop-child.child c.node.result.now stands.tree stands.rest c.node.ensures stands.parts) in
    let s = size_some stands.tree in
    let more = c.loop-child-test.true in
    omega arith

pub loop-child-preserved : goal.loop-child-preserved
loop-child-preserved t c = record {
  after_place = (let past = c.loop-child.invariant.after_place in omega arith);
  goes_on = λ e rest parts.
      fewer_left c.args.tree.now c.loop-child.child (c.args.place + c.node-node.result.now.size) c.node.result.now c.write_text.new.out.items c.loop-child.out.items c.write_element.new.out.items (children_of e)
      (c.loop-child.invariant.goes_on e rest parts) c.loop-child-test.true c.node.ensures c.in_ok-write_element.ensures;
}

pub returns : goal.returns
returns t c e rest parts =
    let node = c.node-node.result.now in
    let is = node_is c.args.tree.now c.args.place node e rest c.node-node.ensures parts in
    let not_bare : bare e ≡ false =
    elim c.else-node-eq-LEAF.branch [
      | else-node-eq-LEAF-via-then-node-eq-LEAF+else-is_empty w ↦ not_bare_text e node is (ap (λ (bs : List ℕ). eqb (length bs) 0) (sym w.as_slice.ensures) ∙ sym w.is_empty.ensures ∙ w.if-is_empty.false)
      | else-node-eq-LEAF-via-else-node-eq-LEAF w ↦ not_bare_size e node is w.if-node-eq-LEAF.false
    ] in
    let opened : c.extend_from_slice-2.new.self.items ≡ c.write_tag.new.out.items ++ codes ">" = search rules in
    let texted : c.write_text.new.out.items ≡ c.extend_from_slice-2.new.self.items ++ written text_byte node.text = c.in_ok-write_text.ensures ∙ ap (λ (bs : List ℕ). c.extend_from_slice-2.new.self.items ++ written text_byte bs) c.as_slice-3.ensures in
    let filled = none_left c.args.tree.now c.loop-child.child (c.args.place + node.size) c.write_text.new.out.items c.loop-child.out.items (children_of e) (c.loop-child.invariant.goes_on e rest parts) c.loop-child-test.false in
    on_ok _ _ c.write_end.result
    (λ ended. full_written e node c.args.out.now.items c.write_tag.new.out.items c.extend_from_slice-2.new.self.items c.write_text.new.out.items c.loop-child.out.items c.write_end.new.out.items is not_bare
    c.in_ok-write_tag.ensures opened texted filled (ended ∙ ap (λ (bs : List ℕ). c.loop-child.out.items ++ (codes "</" ++ (bs ++ codes ">"))) c.as_slice-4.ensures))
    c.write_end.ensures

use Rattle.std.proofs.Common.{◌+◌, ◌≤◌, ◌∷◌, length, reverse, take, refl, ap, ◌∙◌, arith}
use Rattle.e57_elements.specs.declared.tree.RawNode.{RawNode}
use Rattle.e57_tree.specs.Paths.{named_path}
use Rattle.e57_show.specs.Trail.{first_mark, next_mark}
use Rattle.e57_show.specs.declared.trail.Mark.{Mark}
use Rattle.e57_show.proofs.Walking.{next_trail, two_more}
use Rattle.e57_show.proofs.trail.Trail.step.Goals as goal

pub overflow_add-n : goal.overflow_add-n
overflow_add-n c = let count = c.len-count.ensures.len in let inside = c.requires.inside in omega arith

pub returns-in_default-clause-trail : goal.returns-in_default-clause-trail
returns-in_default-clause-trail c =
    let past = c.in_default.ensures c.args.raw.now c.args.self.now.path.items (length c.args.self.now.path.items) c.requires.trail.are_open in
    let inside = c.requires.inside in
    absurd (omega arith)

pub returns-in_default-clause-next : goal.returns-in_default-clause-next
returns-in_default-clause-next c =
    let past = c.in_default.ensures c.args.raw.now c.args.self.now.path.items (length c.args.self.now.path.items) c.requires.trail.are_open in
    let inside = c.requires.inside in
    absurd (omega arith)

pub overflow_add-parent : goal.overflow_add-parent
overflow_add-parent c =
    let parent = c.in-Some.ensures c.args.raw.now c.args.self.now.path.items (length c.args.self.now.path.items) c.requires.trail.are_open in
    let few : c.in-Some.parent.position ≤ c.args.self.now.node + 1 = parent.1.1 in
    let inside = c.requires.inside in
    let most = c.end_of-end.ensures.few in
    omega arith

pub returns-clause-trail : goal.returns-clause-trail
returns-clause-trail c =
    let parent = c.in-Some.parent in
    let n = c.args.self.now.node + 1 in
    next_trail c.args.raw.now c.args.self.now (record { node = c.args.self.now.node + 1; path = c.push_child.new.path; marks = c.push-2.new.self }) parent
    (reverse c.parent_of.new.marks.items) c.requires.trail
    (c.in-Some.ensures c.args.raw.now c.args.self.now.path.items (length c.args.self.now.path.items) c.requires.trail.are_open) refl
    (c.in_ok-push_child.ensures ∙ ap (λ p. named_path parent.counted p parent.position c.as_slice.result.now) c.truncate.ensures.items
    ∙ ap (λ name. named_path parent.counted (take parent.own c.args.self.now.path.items) parent.position name) (c.as_slice.ensures ∙ ap (λ (x : RawNode). x.name) c.node.ensures))
    (two_more c.parent_of.new.marks.items c.push.new.self.items c.push-2.new.self.items (next_mark parent) c.mark_of.result c.in_ok-push.ensures.items c.in_ok-push-2.ensures.items
    ∙ ap (λ (m : Mark). m ∷ next_mark parent ∷ reverse c.parent_of.new.marks.items) (c.mark_of.ensures ∙ ap (λ k. first_mark c.args.raw.now n k) (c.len.ensures ∙ c.push_child.new.path.ok.0)))

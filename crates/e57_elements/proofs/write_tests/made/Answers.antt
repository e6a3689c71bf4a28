use Rattle.std.proofs.Common.{◌≡◌, ◌<◌, [], length, codes, sym, ap, subst, rules, arith}
use Rattle.e57_elements.specs.Making.{TreeSoFar}
use Rattle.e57_elements.proofs.Makes.{so_far}
use Rattle.e57_elements.proofs.Sample.{may_start_first, first, may_attr_first, second, may_text_first, third, may_start_second, fourth, fifth, sixth}
use Rattle.e57_elements.proofs.write_tests.made.Goals as goal

pub start-requires : goal.start-requires
start-requires g c =
    let none : c.in_ok-tree.tree ≡ so_far [] [] = c.in_ok-tree.ensures in
    let a : c.as_slice.result.now ≡ codes "a" = search rules in
    may_start_first c.in_ok-tree.tree c.as_slice.result.now none a

pub attr-requires : goal.attr-requires
attr-requires g c =
    let none : c.in_ok-tree.tree ≡ so_far [] [] = c.in_ok-tree.ensures in
    let a : c.as_slice.result.now ≡ codes "a" = search rules in
    let one = first c.in_ok-tree.tree c.start.new.self c.as_slice.result.now none a c.in_ok-start.ensures.ok in
    let b : c.as_slice-2.result.now ≡ codes "b" = search rules in
    let v : c.as_slice-3.result.now ≡ codes "c" = search rules in
    may_attr_first c.start.new.self c.as_slice-2.result.now c.as_slice-3.result.now one b v

pub text-requires : goal.text-requires
text-requires g c =
    let none : c.in_ok-tree.tree ≡ so_far [] [] = c.in_ok-tree.ensures in
    let a : c.as_slice.result.now ≡ codes "a" = search rules in
    let one = first c.in_ok-tree.tree c.start.new.self c.as_slice.result.now none a c.in_ok-start.ensures.ok in
    let b : c.as_slice-2.result.now ≡ codes "b" = search rules in
    let v : c.as_slice-3.result.now ≡ codes "c" = search rules in
    let two = second c.start.new.self c.attr.new.self c.as_slice-2.result.now c.as_slice-3.result.now one b v c.in_ok-attr.ensures.ok in
    let d : c.as_slice-4.result.now ≡ codes "d" = search rules in
    may_text_first c.attr.new.self c.as_slice-4.result.now two d

pub start-requires-2 : goal.start-requires-2
start-requires-2 g c =
    let none : c.in_ok-tree.tree ≡ so_far [] [] = c.in_ok-tree.ensures in
    let a : c.as_slice.result.now ≡ codes "a" = search rules in
    let one = first c.in_ok-tree.tree c.start.new.self c.as_slice.result.now none a c.in_ok-start.ensures.ok in
    let b : c.as_slice-2.result.now ≡ codes "b" = search rules in
    let v : c.as_slice-3.result.now ≡ codes "c" = search rules in
    let two = second c.start.new.self c.attr.new.self c.as_slice-2.result.now c.as_slice-3.result.now one b v c.in_ok-attr.ensures.ok in
    let d : c.as_slice-4.result.now ≡ codes "d" = search rules in
    let three = third c.attr.new.self c.text.new.self c.as_slice-4.result.now two d c.in_ok-text.ensures.ok in
    let e : c.as_slice-5.result.now ≡ codes "e" = search rules in
    may_start_second c.text.new.self c.as_slice-5.result.now three e

pub end-requires-2 : goal.end-requires-2
end-requires-2 g c =
    let none : c.in_ok-tree.tree ≡ so_far [] [] = c.in_ok-tree.ensures in
    let a : c.as_slice.result.now ≡ codes "a" = search rules in
    let one = first c.in_ok-tree.tree c.start.new.self c.as_slice.result.now none a c.in_ok-start.ensures.ok in
    let b : c.as_slice-2.result.now ≡ codes "b" = search rules in
    let v : c.as_slice-3.result.now ≡ codes "c" = search rules in
    let two = second c.start.new.self c.attr.new.self c.as_slice-2.result.now c.as_slice-3.result.now one b v c.in_ok-attr.ensures.ok in
    let d : c.as_slice-4.result.now ≡ codes "d" = search rules in
    let three = third c.attr.new.self c.text.new.self c.as_slice-4.result.now two d c.in_ok-text.ensures.ok in
    let e : c.as_slice-5.result.now ≡ codes "e" = search rules in
    let four = fourth c.text.new.self c.start-2.new.self c.as_slice-5.result.now three e c.in_ok-start-2.ensures.ok in
    let five = fifth c.start-2.new.self c.end.new.self four c.end.ensures in
    subst (λ (t : TreeSoFar). 0 < length t.begun) (sym five) (omega arith)

pub finish-tree-requires-clause-some : goal.finish-tree-requires-clause-some
finish-tree-requires-clause-some g c =
    let none : c.in_ok-tree.tree ≡ so_far [] [] = c.in_ok-tree.ensures in
    let a : c.as_slice.result.now ≡ codes "a" = search rules in
    let one = first c.in_ok-tree.tree c.start.new.self c.as_slice.result.now none a c.in_ok-start.ensures.ok in
    let b : c.as_slice-2.result.now ≡ codes "b" = search rules in
    let v : c.as_slice-3.result.now ≡ codes "c" = search rules in
    let two = second c.start.new.self c.attr.new.self c.as_slice-2.result.now c.as_slice-3.result.now one b v c.in_ok-attr.ensures.ok in
    let d : c.as_slice-4.result.now ≡ codes "d" = search rules in
    let three = third c.attr.new.self c.text.new.self c.as_slice-4.result.now two d c.in_ok-text.ensures.ok in
    let e : c.as_slice-5.result.now ≡ codes "e" = search rules in
    let four = fourth c.text.new.self c.start-2.new.self c.as_slice-5.result.now three e c.in_ok-start-2.ensures.ok in
    let five = fifth c.start-2.new.self c.end.new.self four c.end.ensures in
    let six = sixth c.end.new.self c.end-2.new.self five c.end-2.ensures in
    subst (λ (t : TreeSoFar). 0 < length t.nodes) (sym six) (omega arith)

pub finish-tree-requires-clause-ended : goal.finish-tree-requires-clause-ended
finish-tree-requires-clause-ended g c =
    let none : c.in_ok-tree.tree ≡ so_far [] [] = c.in_ok-tree.ensures in
    let a : c.as_slice.result.now ≡ codes "a" = search rules in
    let one = first c.in_ok-tree.tree c.start.new.self c.as_slice.result.now none a c.in_ok-start.ensures.ok in
    let b : c.as_slice-2.result.now ≡ codes "b" = search rules in
    let v : c.as_slice-3.result.now ≡ codes "c" = search rules in
    let two = second c.start.new.self c.attr.new.self c.as_slice-2.result.now c.as_slice-3.result.now one b v c.in_ok-attr.ensures.ok in
    let d : c.as_slice-4.result.now ≡ codes "d" = search rules in
    let three = third c.attr.new.self c.text.new.self c.as_slice-4.result.now two d c.in_ok-text.ensures.ok in
    let e : c.as_slice-5.result.now ≡ codes "e" = search rules in
    let four = fourth c.text.new.self c.start-2.new.self c.as_slice-5.result.now three e c.in_ok-start-2.ensures.ok in
    let five = fifth c.start-2.new.self c.end.new.self four c.end.ensures in
    let six = sixth c.end.new.self c.end-2.new.self five c.end-2.ensures in
    ap (λ (t : TreeSoFar). t.begun) six

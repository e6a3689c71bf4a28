use Rattle.std.proofs.Common.{◌≡◌, ◌/◌}
use Rattle.e57_base.specs.Source.{page_length}
use Rattle.e57_elements.specs.Tree.{Element, preorder}
use Rattle.e57_check.proofs.Walking.{Walked}
use Rattle.e57_check.proofs.verdict.judge_items.Given as goal

abbrev pub invariant-loop-item : goal.invariant-loop-item
invariant-loop-item g l =
    ((e : Element) → l.file ≡ preorder e → Walked (l.fn.pages.length / page_length) (g.S.Source.view l.fn.pages.source) e l.item-index l.summary (g.S.Source.view l.pages.source))
    × (l.pages.length ≡ l.fn.pages.length)
    × (l.pages.header ≡ l.fn.pages.header)

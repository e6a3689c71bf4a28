use Rattle.std.proofs.Common.{reverse, sym, ◌∙◌}
use Rattle.e57_show.proofs.Walking.{one_ended, one_open, none_open}
use Rattle.e57_show.proofs.trail.parent_of.Goals as goal

pub returns-then-n-mark : goal.returns-then-n-mark
returns-then-n-mark c nodes text longest h =
    one_open nodes text longest (reverse c.args.marks.now.items) c.loop-mark.marks.items c.pop.new.self.items c.in-Some.mark c.args.n (c.loop-mark.invariant nodes text longest h)
    c.in-Some.ensures.items c.if-n-mark.true

pub loop-mark-preserved : goal.loop-mark-preserved
loop-mark-preserved c nodes text longest h =
    one_ended nodes text longest (reverse c.args.marks.now.items) c.loop-mark.marks.items c.pop.new.self.items c.in-Some.mark c.args.n (c.loop-mark.invariant nodes text longest h)
    c.in-Some.ensures.items c.if-n-mark.false

pub returns : goal.returns
returns c nodes text longest h =
    none_open nodes text longest (reverse c.args.marks.now.items) c.loop-mark.marks.items c.args.n (c.loop-mark.invariant nodes text longest h) (sym c.loop-mark.marks.ok.0 ∙ c.in_default.ensures.cases.0)

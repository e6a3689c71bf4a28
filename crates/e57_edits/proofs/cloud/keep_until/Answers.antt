use Rattle.std.proofs.Common.{◌∙◌, arith, length, inl}
use Rattle.e57_edits.proofs.Planned.{kept_one, kept_end}
use Rattle.e57_edits.proofs.cloud.keep_until.Goals as goal

pub loop-preserved : goal.loop-preserved
loop-preserved c = record {
  same = c.in_ok-push.ensures.items ∙ kept_one c.args.changes.now.items c.loop.changes.items c.loop.counter (length c.args.changes.now.items) (omega (arith, c.len-counter.ensures, c.args.changes.now.ok.0, c.loop.auto.counter)) c.loop.invariant.same;
  end = inl (omega (arith, c.loop-test.true));
}

pub returns : goal.returns
returns c =
    kept_end c.args.changes.now.items c.loop.changes.items c.loop.counter (length c.args.changes.now.items) c.args.count (omega (arith, c.len-counter.ensures, c.args.changes.now.ok.0, c.loop.auto.counter)) c.loop-test.false
    c.loop.invariant.end c.loop.invariant.same

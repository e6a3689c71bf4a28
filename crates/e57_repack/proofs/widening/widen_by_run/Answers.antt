use Rattle.std.proofs.Common.{subst}
use Rattle.e57_blocks.specs.Runs.{run_values}
use Rattle.e57_repack.specs.Ranges.{AreLimits}
use Rattle.e57_repack.proofs.Entries.{run-more}
use Rattle.e57_repack.proofs.widening.widen_by_run.Goals as goal

pub loop-j-preserved : goal.loop-j-preserved
loop-j-preserved c = record {
  limits = subst (λ k. AreLimits k c.widen_by_field.new.ranges.items) c.loop-j.invariant.limits.all c.widen_by_field.ensures.limits;
  widened = run-more c.args.ranges.now.items c.loop-j.ranges.items c.widen_by_field.new.ranges.items c.args.fields.now c.args.blocks.now c.loop-j.j c.args.i c.args.n c.index-fields-j.result c.index-blocks-j.result (run_values c.run.result)
      c.loop-j-test.true c.requires.as_many c.index-fields-j.is c.index-blocks-j.is c.run.ensures.values c.loop-j.invariant.widened c.widen_by_field.ensures.widened;
}

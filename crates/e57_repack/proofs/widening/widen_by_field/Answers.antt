use Rattle.e57_blocks.specs.Runs.{run_values}
use Rattle.e57_repack.proofs.Entries.{entry-same, limits-set, run-none}
use Rattle.e57_repack.proofs.widening.widen_by_field.Goals as goal

pub returns-in_default : goal.returns-in_default
returns-in_default c = record {
  limits = c.requires.limits;
  widened = entry-same c.args.ranges.now.items c.args.field.now (run_values c.args.run) (run-none c.args.run c.in_default.not-Ints);
}

pub returns-clause-limits : goal.returns-clause-limits
returns-clause-limits c = limits-set c.args.ranges.now.items c.args.field.now.node _ c.covering.result c.requires.there c.requires.limits c.covering.ensures.ordered c.covering.ensures.signed

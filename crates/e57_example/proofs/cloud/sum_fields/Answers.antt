use Rattle.std.proofs.Common.{sym}
use Rattle.e57_lib.proofs.Opening.{fixed_fits}
use Rattle.e57_example.proofs.cloud.sum_fields.Goals as goal

pub open_column-requires-clause-fixed : goal.open_column-requires-clause-fixed
open_column-requires-clause-fixed g c = fixed_fits c.args.fields.now c.in-Ok.section.fields c.args.fixed (sym c.in-Ok.ensures.section.has_fields) c.requires.fixed

pub open_column-requires-2-clause-fixed : goal.open_column-requires-2-clause-fixed
open_column-requires-2-clause-fixed g c = fixed_fits c.args.fields.now c.in-Ok.section.fields c.args.fixed (sym c.in-Ok.ensures.section.has_fields) c.requires.fixed

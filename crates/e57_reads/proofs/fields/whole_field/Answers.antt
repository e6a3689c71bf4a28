use Rattle.std.proofs.Common.{rules, ◌<◌, to_z, of_z, w64}
use Rattle.std.specs.Prelude.{◌≤ℤ◌}
use Rattle.e57_reads.proofs.Limits.{width-all}
use Rattle.e57_reads.proofs.fields.whole_field.Goals as goal

pub returns-clause-valid : goal.returns-clause-valid
returns-clause-valid c =
    let order : to_z w64 (of_z w64 c.args.low) ≤ℤ to_z w64 (of_z w64 c.args.high) = search rules in
    let some : 0 < c.args.width = search rules in
    record {
      limits = order;
      width = width-all (to_z w64 (of_z w64 c.args.low)) (to_z w64 (of_z w64 c.args.high)) c.args.width c.gap.result some c.if-width-gt64.false c.gap.ensures c.if-gap-width-ne1.false;
    }

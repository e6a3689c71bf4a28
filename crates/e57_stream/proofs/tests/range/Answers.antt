use Rattle.std.proofs.Common.{rules, ◌<◌, to_z, of_z, w64}
use Rattle.std.specs.Prelude.{◌≤ℤ◌}
use Rattle.e57_stream.proofs.Ranges.{is_range}
use Rattle.e57_stream.proofs.tests.range.Goals as goal

pub returns : goal.returns
returns c =
    let order : to_z w64 (of_z w64 c.args.low) ≤ℤ to_z w64 (of_z w64 c.args.high) = search rules in
    let some : 0 < c.args.width = search rules in
    is_range (to_z w64 (of_z w64 c.args.low)) (to_z w64 (of_z w64 c.args.high)) c.args.width c.gap.result order some c.if-width-gt64.false c.gap.ensures c.if-gap-width-ne1.false

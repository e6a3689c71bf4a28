use Rattle.std.proofs.Common.{refl}
use Rattle.e57_lanes.proofs.Fields.{in_nine}
use Rattle.e57_lanes.proofs.plain.number_in_nine.Goals as goal

pub returns : goal.returns
returns c =
    in_nine c.args.bytes.now c.args.at c.args.shift c.args.width c.u64_at.result _ c.u64_at.ensures refl (c.type_inv.bytes _).fits c.requires.shift c.requires.width.1

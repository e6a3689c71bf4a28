use Rattle.e57_crc.proofs.FarLaws.{looked_up_far-is}
use Rattle.e57_crc.proofs.tables.looked_up_far.Goals as goal

pub returns : goal.returns
returns c = looked_up_far-is c.args.byte c.args.zeros c.ranges.byte.fits c.requires

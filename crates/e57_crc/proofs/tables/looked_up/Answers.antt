use Rattle.e57_crc.proofs.TableLaws.{looked_up-is}
use Rattle.e57_crc.proofs.tables.looked_up.Goals as goal

pub returns : goal.returns
returns c = looked_up-is c.args.byte c.args.zeros c.ranges.byte.fits c.requires

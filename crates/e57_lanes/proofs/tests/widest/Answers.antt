use Rattle.e57_lanes.proofs.Fields.{mask-lt}
use Rattle.e57_lanes.proofs.tests.widest.Goals as goal

pub returns-else-width-eq0 : goal.returns-else-width-eq0
returns-else-width-eq0 c = mask-lt c.args.width c.requires

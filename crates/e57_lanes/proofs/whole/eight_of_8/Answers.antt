use Rattle.e57_lanes.proofs.Items.{eight_bytes}
use Rattle.e57_lanes.proofs.whole.eight_of_8.Goals as goal

pub returns : goal.returns
returns c = eight_bytes c.args.bytes.now c.args.at (λ k. (c.type_inv.bytes k).fits) c.requires

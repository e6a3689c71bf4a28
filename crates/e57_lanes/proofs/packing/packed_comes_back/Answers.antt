use Rattle.e57_lanes.proofs.PackLaws.{unpacked_packed}
use Rattle.e57_lanes.proofs.packing.packed_comes_back.Goals as goal

pub returns : goal.returns
returns c = unpacked_packed

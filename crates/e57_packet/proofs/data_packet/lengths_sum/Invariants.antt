use Rattle.std.proofs.Common.{◌≡◌}
use Rattle.std.specs.Prelude.{sum}
use Rattle.e57_layout.specs.Packets.{lengths_at}
use Rattle.e57_packet.proofs.data_packet.lengths_sum.Given as goal

abbrev pub invariant-loop-k : goal.invariant-loop-k
invariant-loop-k l = l.total ≡ sum (lengths_at l.packet 6 l.k)

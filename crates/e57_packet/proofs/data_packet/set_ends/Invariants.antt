use Rattle.std.proofs.Common.{◌≡◌, ◌+◌, ◌*◌, length, take}
use Rattle.std.specs.Prelude.{sum}
use Rattle.e57_layout.specs.Packets.{lengths_at}
use Rattle.e57_packet.specs.Reading.{stream_ends}
use Rattle.e57_packet.proofs.data_packet.set_ends.Given as goal

abbrev pub invariant-loop-k : goal.invariant-loop-k
invariant-loop-k l = record {
  long : length l.ends ≡ length l.fn.ends;
  end : l.end ≡ 6 + 2 * length l.fn.ends + sum (lengths_at l.packet 6 l.k);
  done : take l.k l.ends ≡ stream_ends (6 + 2 * length l.fn.ends) (lengths_at l.packet 6 l.k);
}

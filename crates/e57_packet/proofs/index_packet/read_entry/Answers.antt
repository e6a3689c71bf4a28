use Rattle.std.proofs.Common.{refl}
use Rattle.e57_layout.specs.IndexPackets.{entry_at}
use Rattle.e57_packet.proofs.index_packet.read_entry.Goals as goal

pub returns : goal.returns
unfolding entry_at
returns c = rw (c.u64_at.ensures, c.u64_at-2.ensures, c.as_slice-bytes.ensures) refl

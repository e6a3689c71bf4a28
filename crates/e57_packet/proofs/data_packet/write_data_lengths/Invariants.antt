use Rattle.std.proofs.Common.{◌≡◌, ◌+◌, ◌*◌, ◌++◌, length, take}
use Rattle.std.specs.List.{flat_map}
use Rattle.e57_layout.specs.Bytes.{low_bytes}
use Rattle.e57_packet.proofs.data_packet.write_data_lengths.Given as goal

abbrev pub invariant-loop-k : goal.invariant-loop-k
invariant-loop-k l = record {
  long : length l.out ≡ length l.fn.out;
  done : take (2 + 2 * l.k) l.out ≡ low_bytes 2 (length l.lengths) ++ flat_map (low_bytes 2) (take l.k l.lengths);
}

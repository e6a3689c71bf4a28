use Rattle.std.specs.List.{flat_map}
use Rattle.e57_layout.specs.IndexPackets.{index_packet}
use Rattle.e57_page_out.specs.Sequences.{Puts}
use Rattle.e57_index_out.specs.Levels.{packet_entries}
use Rattle.e57_index_out.proofs.Made.{made}
use Rattle.e57_index_out.proofs.levels.write_level.Given as goal

abbrev pub invariant-loop-j : goal.invariant-loop-j
invariant-loop-j g l = Puts g.T.Target.view l.fn.out (flat_map (index_packet l.fn.level.number) (made (packet_entries l.fn.chunks l.fn.level) 0 l.j)) l.out

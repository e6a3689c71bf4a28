use Rattle.std.proofs.Common.{◌-◌}
use Rattle.std.specs.List.{flat_map}
use Rattle.e57_layout.specs.IndexPackets.{entry_bytes}
use Rattle.e57_page_out.specs.Sequences.{Puts}
use Rattle.e57_index_out.specs.Levels.{level_entry}
use Rattle.e57_index_out.proofs.Made.{made}
use Rattle.e57_index_out.proofs.levels.write_entries.Given as goal

abbrev pub invariant-loop-k : goal.invariant-loop-k
invariant-loop-k g l = Puts g.T.Target.view l.fn.out (flat_map entry_bytes (made (level_entry l.fn.chunks l.fn.level) l.fn.first (l.k - l.fn.first))) l.out

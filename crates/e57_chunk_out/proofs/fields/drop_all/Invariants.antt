use Rattle.std.proofs.Common.{◌≡◌, ◌++◌, map, take, drop}
use Rattle.e57_chunk_out.specs.Waiting.{later_items}
use Rattle.e57_chunk_out.proofs.fields.drop_all.Given as goal

abbrev pub invariant-loop-k : goal.invariant-loop-k
invariant-loop-k l = l.fields ≡ map (later_items l.n) (take l.k l.initial.fields) ++ drop l.k l.initial.fields

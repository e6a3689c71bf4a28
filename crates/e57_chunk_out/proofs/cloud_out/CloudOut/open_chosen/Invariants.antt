use Rattle.std.proofs.Common.{take}
use Rattle.e57_chunk_out.specs.CloudCalls.{chosen_kinds}
use Rattle.e57_chunk_out.proofs.Opening.{OpensSoFar}
use Rattle.e57_chunk_out.proofs.cloud_out.CloudOut.open_chosen.Given as goal

abbrev pub invariant-loop-k : goal.invariant-loop-k
invariant-loop-k l = OpensSoFar l.most (chosen_kinds l.fields (take l.k l.chosen)) l.outs.items

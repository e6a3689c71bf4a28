use Rattle.std.proofs.Common.{take}
use Rattle.e57_chunk_out.specs.CloudCalls.{kinds_in}
use Rattle.e57_chunk_out.proofs.Opening.{OpensSoFar}
use Rattle.e57_chunk_out.proofs.cloud_out.CloudOut.open.Given as goal

abbrev pub invariant-loop-k : goal.invariant-loop-k
invariant-loop-k l = OpensSoFar l.most (kinds_in (take l.k l.fields)) l.outs.items

use Rattle.std.proofs.Common.{◌≡◌, ◌++◌, take, drop}
use Rattle.e57_chunk_out.specs.Texts.{moved_ends}
use Rattle.e57_chunk_out.proofs.gathered.move_ends.Given as goal

abbrev pub invariant-loop-k : goal.invariant-loop-k
invariant-loop-k l = l.ends ≡ moved_ends l.begin l.start (take l.k l.initial.ends) ++ drop l.k l.initial.ends

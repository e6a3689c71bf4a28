use Rattle.std.proofs.Common.{◌≡◌, ◌+◌, ◌*◌, ◌≤◌, drop, length}
use Rattle.e57_chunk_out.specs.Texts.{AreEnds, texts_size}
use Rattle.e57_chunk_out.proofs.texts.all_texts_size.Given as goal

abbrev pub invariant-loop-k : goal.invariant-loop-k
invariant-loop-k l = record {
  ends : AreEnds (length l.bytes) l.before (drop l.k l.ends);
  size : l.size + texts_size l.before (drop l.k l.ends) ≡ texts_size l.begin l.ends;
  few : l.size ≤ 16777224 * l.k;
}

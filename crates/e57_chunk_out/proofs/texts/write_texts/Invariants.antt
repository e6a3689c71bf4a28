use Rattle.std.proofs.Common.{◌≡◌, ◌+◌, ◌++◌, drop, take, length}
use Rattle.e57_layout.specs.Values.{strings}
use Rattle.e57_layout.specs.Items.{field_bytes}
use Rattle.e57_chunk_out.specs.Texts.{AreEnds, strings_at, texts_size}
use Rattle.e57_chunk_out.proofs.texts.write_texts.Given as goal

abbrev pub invariant-loop-k : goal.invariant-loop-k
invariant-loop-k l = record {
  ends : AreEnds (length l.bytes) l.before (drop l.k l.ends);
  room : l.at + texts_size l.before (drop l.k l.ends) ≡ length l.out;
  bytes : take l.at l.out ++ field_bytes strings (strings_at l.bytes l.before (drop l.k l.ends)) ≡ field_bytes strings (strings_at l.bytes l.begin l.ends);
}

use Rattle.std.proofs.Common.{sym, ◌∙◌}
use Rattle.e57_layout.proofs.Laws.Numbers.{little-low_bytes_all}
use Rattle.e57_chunk_out.proofs.Waits.{length-words, bytes_of_words, below_all}
use Rattle.e57_chunk_out.proofs.pending.write_words.Goals as goal

pub write_u32_into-requires : goal.write_u32_into-requires
write_u32_into-requires c = c.requires.room ∙ length-words 4 c.args.values.now

pub returns : goal.returns
returns c = c.write_u32_into.ensures ∙ little-low_bytes_all 4 c.args.values.now ∙ sym (bytes_of_words 4 c.args.values.now (below_all 32 c.args.values.now (λ k. (c.type_inv.values k).fits)))

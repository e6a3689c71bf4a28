use Rattle.std.proofs.Common.{arith}
use Rattle.e57_page_out.proofs.Places.{offset-place}
use Rattle.e57_chunk_out.proofs.Chunking.{begins_new}
use Rattle.e57_chunk_out.proofs.turn.begin_chunk.Goals as goal

pub returns : goal.returns
returns g c = begins_new c.args.e c.args.out.now.size c.args.chunks.now c.push.new.self c.place-place.result (omega (arith, c.if-e-chunks-ne0.false)) (offset-place c.place-place.result c.args.out.now.size c.place-place.ensures.place) c.push.ensures

use Rattle.std.proofs.Common.{arith}
use Rattle.e57_chunk_out.proofs.Chunking.{lost_first, turned_open, turned_full, lost_last}
use Rattle.e57_chunk_out.proofs.turn.turn.Goals as goal

pub returns-in-Err : goal.returns-in-Err
returns-in-Err g c =
    lost_first g.T.Target.view c.args.e c.args.from c.args.most c.min-within.result c.args.fields.now c.args.chunks.now c.begin_chunk.new.chunks c.args.out.now c.requires.chunked c.requires.whole c.requires.some c.begin_chunk.ensures (omega (arith, c.min-within.ensures))
    c.advance.new.out c.in-Err.fault c.in-Err.ensures

pub returns-then-k-left : goal.returns-then-k-left
returns-then-k-left g c =
    turned_open g.T.Target.view c.args.e c.args.from c.args.most c.min-within.result c.args.fields.now c.args.chunks.now c.begin_chunk.new.chunks c.args.out.now c.requires.chunked c.requires.whole c.requires.some c.begin_chunk.ensures (omega (arith, c.min-within.ensures))
    c.in-Ok.k c.advance.new.fields c.advance.new.run c.advance.new.out c.in-Ok.ensures.0 c.in-Ok.ensures.1 c.if-k-left.true

pub returns-in-Ok-end_chunk : goal.returns-in-Ok-end_chunk
returns-in-Ok-end_chunk g c =
    turned_full g.T.Target.view c.args.e c.args.from c.args.most c.min-within.result c.args.fields.now c.args.chunks.now c.begin_chunk.new.chunks c.args.out.now c.requires.chunked c.requires.whole c.requires.some c.begin_chunk.ensures (omega (arith, c.min-within.ensures))
    c.in-Ok.k c.advance.new.out c.end_chunk.new.out c.advance.new.fields c.end_chunk.new.fields c.advance.new.run c.end_chunk.new.run c.in-Ok.ensures.0 c.in-Ok.ensures.1 (omega (arith, c.if-k-left.false)) c.in-Ok-end_chunk.ensures

pub returns-in-Err-end_chunk : goal.returns-in-Err-end_chunk
returns-in-Err-end_chunk g c =
    lost_last g.T.Target.view c.args.e c.args.from c.args.most c.min-within.result c.args.fields.now c.args.chunks.now c.begin_chunk.new.chunks c.args.out.now c.requires.chunked c.requires.whole c.requires.some c.begin_chunk.ensures (omega (arith, c.min-within.ensures))
    c.in-Ok.k c.advance.new.out c.end_chunk.new.out c.advance.new.fields c.advance.new.run c.in-Err-end_chunk.fault c.in-Ok.ensures.0 c.in-Ok.ensures.1 (omega (arith, c.if-k-left.false)) c.in-Err-end_chunk.ensures

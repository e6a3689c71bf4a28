use Rattle.std.proofs.Common.{◌∙◌, ◌-◌, length, refl, arith}
use Rattle.e57_show.specs.BlobPutting.{PutsBytes, FailsBytes}
use Rattle.e57_show.proofs.Putting.{first_none, first_on, fails_whole, counted_piece, same_room as the_same_room}
use Rattle.e57_show.proofs.bytes.put_bytes.Goals as goal
use Rattle.e57_base.proofs.Options.{by_error}

pub loop-at-init : goal.loop-at-init
loop-at-init g c =
    record {
      same_size = refl;
      same_header = refl;
      same_length = refl;
      same_room = refl;
      within = omega arith;
      first = first_none c.args.blob.now (g.S.Source.view c.args.pages.now.source) c.args.pages.now.kept (g.O.Sink.view c.args.out.now) c.requires.kept;
    }

pub returns-in_err-put_piece-clause-bytes : goal.returns-in_err-put_piece-clause-bytes
returns-in_err-put_piece-clause-bytes g c =
    let blob = c.args.blob.now in
    let old = g.S.Source.view c.args.pages.now.source in
    let mid = g.S.Source.view c.loop-at.pages.source in
    let new = g.S.Source.view c.put_piece.new.pages.source in
    let out = g.O.Sink.view c.args.out.now in
    let out' = g.O.Sink.view c.loop-at.out in
    let out'' = g.O.Sink.view c.put_piece.new.out in
    let inv = c.loop-at.invariant in
    let below = c.loop-at-test.true in
    let room = c.requires.room in
    let same = inv.same_room in
    let count = c.piece_length-count.result in
    let piece = counted_piece c.loop-at.buffer (blob.length - c.loop-at.at) count (omega (arith, below)) (omega (arith, room, same)) c.piece_length-count.ensures in
    let few = piece.2 in
    by_error (λ _. PutsBytes blob old new out out'') (λ fault. FailsBytes blob old new out out'' fault) c.in_err-put_piece.field-0.0 c.from_residual.result c.from_residual.ensures.1
    (fails_whole blob c.loop-at.at count old mid new c.loop-at.pages.kept out out' out'' c.in_err-put_piece.field-0.0 piece.1 (omega (arith, few, below)) inv.first
    (rw piece.0 at c.in_err-put_piece.ensures.piece))

pub loop-at-preserved : goal.loop-at-preserved
loop-at-preserved g c =
    let blob = c.args.blob.now in
    let old = g.S.Source.view c.args.pages.now.source in
    let mid = g.S.Source.view c.loop-at.pages.source in
    let new = g.S.Source.view c.put_piece.new.pages.source in
    let out = g.O.Sink.view c.args.out.now in
    let out' = g.O.Sink.view c.loop-at.out in
    let out'' = g.O.Sink.view c.put_piece.new.out in
    let inv = c.loop-at.invariant in
    let below = c.loop-at-test.true in
    let room = c.requires.room in
    let same = inv.same_room in
    let count = c.piece_length-count.result in
    let piece = counted_piece c.loop-at.buffer (blob.length - c.loop-at.at) count (omega (arith, below)) (omega (arith, room, same)) c.piece_length-count.ensures in
    let few = piece.2 in
    record {
      same_size = c.in_ok-put_piece.ensures.length ∙ inv.same_size;
      same_header = c.in_ok-put_piece.ensures.header ∙ inv.same_header;
      same_length = refl;
      same_room = the_same_room c.put_piece.new.piece c.loop-at.buffer count (length c.args.buffer.now) c.put_piece.auto.piece piece.0 piece.3 inv.same_room;
      within = omega (arith, few, below);
      first = first_on blob c.loop-at.at count old mid new c.loop-at.pages.kept c.put_piece.new.pages.kept out out' out'' inv.first (rw piece.0 at c.in_ok-put_piece.ensures.piece);
    }

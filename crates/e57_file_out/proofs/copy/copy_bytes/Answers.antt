use Rattle.std.proofs.Common.{◌∙◌, ◌-◌, ◌≡◌, length, refl, subst, arith}
use Rattle.e57_file_out.specs.Copying.{CopiesFirst, CopiesPart, LosesPart}
use Rattle.e57_file_out.proofs.CopySteps.{first_none, first_on, part_lost, counted_piece, same_room as the_same_room}
use Rattle.e57_file_out.proofs.copy.copy_bytes.Goals as goal

pub loop-at-init : goal.loop-at-init
loop-at-init g c =
    record {
      same_size = refl;
      same_header = refl;
      same_length = refl;
      same_room = refl;
      within = omega arith;
      first = first_none g.T.Target.view c.args.blob.now (g.S.Source.view c.args.pages.now.source) c.args.pages.now.kept c.args.out.now c.requires.state;
    }

pub returns-in-Err-clause-bytes : goal.returns-in-Err-clause-bytes
returns-in-Err-clause-bytes g c =
    let view = g.T.Target.view in
    let blob = c.args.blob.now in
    let old = g.S.Source.view c.args.pages.now.source in
    let mid = g.S.Source.view c.loop-at.pages.source in
    let new = g.S.Source.view c.copy_piece.new.pages.source in
    let inv = c.loop-at.invariant in
    let below = c.loop-at-test.true in
    let room = c.requires.room in
    let same = inv.same_room in
    let count = c.piece_length-count.result in
    let piece = counted_piece c.loop-at.buffer (blob.length - c.loop-at.at) count (omega (arith, below)) (omega (arith, room, same)) c.piece_length-count.ensures in
    let few = piece.2 in
    part_lost view blob c.loop-at.at count old mid new c.loop-at.pages.kept c.args.out.now c.loop-at.out c.copy_piece.new.out inv.first c.in-Err.fault piece.1 (omega (arith, few, below))
    (subst (λ n. LosesPart view blob c.loop-at.at n mid new c.loop-at.out c.in-Err.fault c.copy_piece.new.out) piece.0 c.in-Err.ensures.piece)

pub loop-at-preserved : goal.loop-at-preserved
loop-at-preserved g c =
    let view = g.T.Target.view in
    let blob = c.args.blob.now in
    let old = g.S.Source.view c.args.pages.now.source in
    let mid = g.S.Source.view c.loop-at.pages.source in
    let new = g.S.Source.view c.copy_piece.new.pages.source in
    let inv = c.loop-at.invariant in
    let below = c.loop-at-test.true in
    let room = c.requires.room in
    let same = inv.same_room in
    let count = c.piece_length-count.result in
    let piece = counted_piece c.loop-at.buffer (blob.length - c.loop-at.at) count (omega (arith, below)) (omega (arith, room, same)) c.piece_length-count.ensures in
    let few = piece.2 in
    record {
      same_size = c.in_default.ensures.length ∙ inv.same_size;
      same_header = c.in_default.ensures.header ∙ inv.same_header;
      same_length = refl;
      same_room = the_same_room c.copy_piece.new.piece c.loop-at.buffer count (length c.args.buffer.now) c.copy_piece.auto.piece piece.0 piece.3 inv.same_room;
      within = omega (arith, few, below);
      first = first_on view blob c.loop-at.at count old mid new c.loop-at.pages.kept c.args.out.now c.loop-at.out c.copy_piece.new.out inv.first c.copy_piece.new.pages.kept
          (subst (λ n. CopiesPart view blob c.loop-at.at n mid new c.copy_piece.new.pages.kept c.loop-at.out c.copy_piece.new.out) piece.0 c.in_default.ensures.piece);
    }

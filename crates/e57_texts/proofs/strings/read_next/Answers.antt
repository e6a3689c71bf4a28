use Rattle.std.proofs.Common.{◌≤◌, drop, length, take, arith}
use Rattle.std.proofs.lemmas.List.{length-take-le}
use Rattle.e57_texts.proofs.Nexts.{reads_text, short_text, lacks_bytes}
use Rattle.e57_texts.proofs.Lengths.{fits_unknown, fits_known}
use Rattle.e57_texts.proofs.Rows.{prefix_length}
use Rattle.e57_texts.proofs.strings.read_next.Goals as goal

pub returns-in-Some-clause-next : goal.returns-in-Some-clause-next
returns-in-Some-clause-next g c =
    let short = rw c.bytes.ensures.bytes at c.in-Some.ensures in
    let few = short.1.few in
    let places = short.0 in (
      omega (arith, few, places),
      short_text (g.S.Source.view c.args.pages.now.source) c.args.stream.now c.args.chunk.now c.in-Some.count c.move_short.new.out c.skip.new.self c.requires.within.taken_within short.1 (rw c.bytes-in-Some.ensures.bytes at c.move_short.ensures.front) c.skip.ensures,
    )

pub returns-in-Err-read_piece-clause-next : goal.returns-in-Err-read_piece-clause-next
returns-in-Err-read_piece-clause-next g c =
    let test = c.if-length-out.false in
    let fits : c.in-Ok.stated.0 ≤ length c.args.out.now = omega (arith, test) in
    lacks_bytes (g.S.Source.view c.args.pages.now.source) (g.S.Source.view c.next_prefix.new.pages.source) (g.S.Source.view c.read_piece.new.pages.source) c.args.stream.now c.args.chunk.now c.next_prefix.new.chunk c.read_piece.new.chunk c.in-Ok.stated.0 c.in-Ok.stated.1 (length (take c.in-Ok.stated.0 c.args.out.now)) c.skip-2.new.self c.in-Err-read_piece.fault
    c.requires.within.low c.skip-2.ensures (length-take-le c.in-Ok.stated.0 c.args.out.now fits) c.in-Ok.ensures.prefix c.in-Err-read_piece.ensures.piece

pub returns-clause-next : goal.returns-clause-next
returns-clause-next g c =
    let test = c.if-length-out.false in
    let fits : c.in-Ok.stated.0 ≤ length c.args.out.now = omega (arith, test) in (
      fits,
      reads_text (g.S.Source.view c.args.pages.now.source) (g.S.Source.view c.next_prefix.new.pages.source) (g.S.Source.view c.read_piece.new.pages.source) c.args.stream.now c.args.chunk.now c.next_prefix.new.chunk c.read_piece.new.chunk c.in-Ok.stated.0 c.in-Ok.stated.1 c.skip-2.new.self c.args.out.now c.read_piece.new.out (drop c.in-Ok.stated.0 c.args.out.now)
          c.skip-2.ensures fits c.in_default-read_piece.ensures.size c.in-Ok.ensures.prefix c.in_default-read_piece.ensures.piece,
    )

pub returns-in-Err-clause-fits : goal.returns-in-Err-clause-fits
returns-in-Err-clause-fits g c = fits_unknown (g.S.Source.view c.args.pages.now.source) c.args.stream.now c.args.chunk.now c.args.chunk.now.at (length c.args.out.now) c.in-Err.fault c.in-Err.ensures.unknown

pub returns-in-Err-read_piece-clause-fits : goal.returns-in-Err-read_piece-clause-fits
returns-in-Err-read_piece-clause-fits g c =
    let test = c.if-length-out.false in
    fits_known (g.S.Source.view c.args.pages.now.source) c.args.stream.now c.args.chunk.now c.args.chunk.now.at c.in-Ok.stated.0 (length c.args.out.now) c.in-Err-read_piece.fault (omega (arith, test))
    (prefix_length (g.S.Source.view c.args.pages.now.source) (g.S.Source.view c.next_prefix.new.pages.source) c.args.stream.now c.args.chunk.now c.next_prefix.new.chunk c.in-Ok.stated.0 c.in-Ok.stated.1 c.in-Ok.ensures.prefix)

use Rattle.std.proofs.Common.{refl}
use Rattle.e57_texts.proofs.Nexts.{skips_text, lacks_bytes}
use Rattle.e57_texts.proofs.skip.skip_next.Goals as goal

pub returns-in-Err-skip_piece-clause-next : goal.returns-in-Err-skip_piece-clause-next
returns-in-Err-skip_piece-clause-next g c =
    lacks_bytes (g.S.Source.view c.args.pages.now.source) (g.S.Source.view c.next_prefix.new.pages.source) (g.S.Source.view c.skip_piece.new.pages.source) c.args.stream.now c.args.chunk.now c.next_prefix.new.chunk c.skip_piece.new.chunk c.in-Ok.stated.0 c.in-Ok.stated.1 c.in-Ok.stated.0 c.skip.new.self c.in-Err-skip_piece.fault
    c.requires.within.low c.skip.ensures refl c.in-Ok.ensures.prefix c.in-Err-skip_piece.ensures.piece

pub returns-clause-next : goal.returns-clause-next
returns-clause-next g c =
    skips_text (g.S.Source.view c.args.pages.now.source) (g.S.Source.view c.next_prefix.new.pages.source) (g.S.Source.view c.skip_piece.new.pages.source) c.args.stream.now c.args.chunk.now c.next_prefix.new.chunk c.skip_piece.new.chunk c.in-Ok.stated.0 c.in-Ok.stated.1 c.skip.new.self
    c.skip.ensures c.in-Ok.ensures.prefix c.in_default.ensures.piece

use Rattle.std.proofs.Common.{◌∙◌, refl}
use Rattle.e57_texts.specs.Pieces.{IsFewer}
use Rattle.e57_texts.proofs.Pieces.{lacks_packet}
use Rattle.e57_texts.proofs.Held.{lacks_some, skips_first, skips_more}
use Rattle.e57_texts.proofs.piece.skip_piece.Goals as goal

pub loop-left-init : goal.loop-left-init
loop-left-init g c = record {
  same_size = refl;
  same_header = refl;
  skips = skips_first (g.S.Source.view c.args.pages.now.source) c.args.stream.now c.args.chunk.now c.args.n c.skip_held-left.result c.skip_held-left.new.window c.requires.within c.skip_held-left.ensures.left c.skip_held-left.ensures.rest;
}

pub returns-in-Err-clause-piece : goal.returns-in-Err-clause-piece
returns-in-Err-clause-piece g c =
    let skips = c.loop-left.invariant.skips in
    let some = c.loop-left-test.true in
    lacks_packet (g.S.Source.view c.args.pages.now.source) (g.S.Source.view c.loop-left.pages.source) (g.S.Source.view c.take_packet.new.pages.source) c.args.stream.now c.args.chunk.now c.loop-left.chunk c.take_packet.new.chunk (IsFewer c.args.n) skips.bytes c.in-Err.fault
    (lacks_some skips.bytes c.loop-left.chunk.window c.args.n c.loop-left.left some skips.count (skips.empty some)) skips.takes c.in-Err.ensures.packet

pub loop-left-preserved : goal.loop-left-preserved
loop-left-preserved g c =
    let inv = c.loop-left.invariant in
    let held = c.skip_held-left-in-loop-left in
    record {
      same_size = c.in_default.ensures.length ∙ inv.same_size;
      same_header = c.in_default.ensures.header ∙ inv.same_header;
      skips = skips_more (g.S.Source.view c.args.pages.now.source) (g.S.Source.view c.loop-left.pages.source) (g.S.Source.view c.take_packet.new.pages.source) c.args.stream.now c.args.chunk.now c.loop-left.chunk c.take_packet.new.chunk c.args.n c.loop-left.left held.result held.new.window c.loop-left-test.true inv.skips c.in_default.ensures.packet held.ensures.left held.ensures.rest;
    }

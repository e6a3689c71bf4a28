use Rattle.std.proofs.Common.{length, refl, ◌∙◌}
use Rattle.e57_page.proofs.Pieces.{has_read_none, has_read_more, is_cut, page_short}
use Rattle.e57_page.proofs.pages.Pages.read.Goals as goal

pub loop-n-init : goal.loop-n-init
loop-n-init g c = record { size = refl; header = refl; read = has_read_none (g.S.Source.view c.args.self.now.source) c.args.self.now.kept c.args.at c.span_end-high.result c.args.out.now }

pub loop-n-preserved : goal.loop-n-preserved
loop-n-preserved g c =
    let kept = c.loop-n.invariant in
    let did = c.in_default.ensures in
    record {
      size = did.length ∙ kept.size;
      header = did.header ∙ kept.header;
      read = has_read_more (g.S.Source.view c.args.self.now.source) (g.S.Source.view c.loop-n.self.source) (g.S.Source.view c.read_piece.new.self.source) c.args.self.now.kept c.loop-n.self.kept c.read_piece.new.self.kept c.args.at c.loop-n.n c.span_end-high.result c.args.out.now c.loop-n.out c.read_piece.new.out c.loop-n.auto.n c.loop-n-test.true c.loop-n.auto.out kept.read did.piece;
    }

pub returns-in-Err-clause-range : goal.returns-in-Err-clause-range
returns-in-Err-clause-range g c =
    let kept = c.loop-n.invariant in
    let failed = c.in-Err.ensures in
    let begins = page_short c.args.at (length c.args.out.now) c.loop-n.n c.loop-n.auto.n (rw c.span_end-high.ensures at c.loop-n-test.true) in
    let cut = is_cut (g.S.Source.view c.args.self.now.source) (g.S.Source.view c.loop-n.self.source) (g.S.Source.view c.read_piece.new.self.source) c.args.self.now.kept c.loop-n.self.kept c.args.at c.loop-n.n c.span_end-high.result c.args.out.now c.loop-n.out c.in-Err.fault c.loop-n.auto.n c.loop-n-test.true c.span_end-high.ensures failed.piece.unkept begins kept.read failed.piece.page in
    (c.loop-n.n, rw (c.before_page.ensures, failed.piece.same_kept, failed.piece.same_bytes) cut)

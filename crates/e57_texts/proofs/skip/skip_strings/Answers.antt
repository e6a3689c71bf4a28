use Rattle.std.proofs.Common.{◌∙◌, refl, arith}
use Rattle.e57_texts.proofs.Rows.{next_at, passes_none, passes_more, passes_all, passes_stop}
use Rattle.e57_texts.proofs.skip.skip_strings.Goals as goal

pub loop-chunk-init : goal.loop-chunk-init
loop-chunk-init g c = record { same_size = refl; same_header = refl; passes = passes_none (g.S.Source.view c.args.pages.now.source) c.args.stream.now c.args.chunk.now c.args.i c.requires.within c.requires.low }

pub loop-chunk-preserved : goal.loop-chunk-preserved
loop-chunk-preserved g c =
    let inv = c.loop-chunk.invariant in
    record {
      same_size = c.in_default.ensures.length ∙ inv.same_size;
      same_header = c.in_default.ensures.header ∙ inv.same_header;
      passes = passes_more (g.S.Source.view c.args.pages.now.source) (g.S.Source.view c.loop-chunk.pages.source) (g.S.Source.view c.skip_next.new.pages.source) c.args.stream.now c.args.chunk.now c.loop-chunk.chunk c.skip_next.new.chunk c.args.i c.loop-chunk-test.true c.requires.high inv.passes c.in_default.ensures.next;
    }

pub loop-chunk-smaller : goal.loop-chunk-smaller
loop-chunk-smaller g c =
    let at = next_at (g.S.Source.view c.loop-chunk.pages.source) (g.S.Source.view c.skip_next.new.pages.source) c.args.stream.now c.loop-chunk.chunk c.skip_next.new.chunk c.in_default.ensures.next.text c.in_default.ensures.next.takes in
    let test = c.loop-chunk-test.true in
    omega (arith, at, test)

pub returns-in-Err-clause-skipped : goal.returns-in-Err-clause-skipped
returns-in-Err-clause-skipped g c =
    passes_stop (g.S.Source.view c.args.pages.now.source) (g.S.Source.view c.loop-chunk.pages.source) (g.S.Source.view c.skip_next.new.pages.source) c.args.stream.now c.args.chunk.now c.loop-chunk.chunk c.skip_next.new.chunk c.args.i c.in-Err.fault c.loop-chunk-test.true c.loop-chunk.invariant.passes c.in-Err.ensures.next

pub returns-clause-skipped : goal.returns-clause-skipped
returns-clause-skipped g c =
    let test = c.loop-chunk-test.false in
    passes_all (g.S.Source.view c.args.pages.now.source) (g.S.Source.view c.loop-chunk.pages.source) c.args.stream.now c.args.chunk.now c.loop-chunk.chunk c.args.i (omega (arith, test)) c.loop-chunk.invariant.passes

use Rattle.std.proofs.Common.{◌-◌, ◌≤◌, length, take, drop, refl, ◌∙◌, arith}
use Rattle.e57_stream.proofs.WordSteps.{reads_words_on, stops_words_on}
use Rattle.e57_stream.proofs.words.read_words32.Goals as goal

pub loop-done-preserved : goal.loop-done-preserved
loop-done-preserved g c =
    let inv = c.loop-done.invariant in
    let below = c.loop-done-test.true in
    let want_is = inv.want_is in
    let same = inv.reads.fills.same_length in
    record {
      same_size = c.in-Ok.ensures.length ∙ inv.same_size;
      same_header = c.in-Ok.ensures.header ∙ inv.same_header;
      want_is = want_is;
      reads = reads_words_on (g.S.Source.view c.args.pages.now.source) (g.S.Source.view c.loop-done.pages.source) (g.S.Source.view c.step_words32.new.pages.source) c.args.stream.now 32 c.args.chunk.now c.loop-done.chunk c.step_words32.new.chunk c.wanted-want.result c.loop-done.done c.in-Ok.n c.args.out.now c.loop-done.out (take (c.wanted-want.result - c.loop-done.done) (drop c.loop-done.done c.loop-done.out)) c.step_words32.new.out (omega (arith, below)) (omega (arith, want_is, same)) refl inv.reads c.in-Ok.ensures.items;
    }

pub returns-in-Err-clause-items : goal.returns-in-Err-clause-items
returns-in-Err-clause-items g c =
    let inv = c.loop-done.invariant in
    let below = c.loop-done-test.true in
    let want_is = inv.want_is in
    let same = inv.reads.fills.same_length in
    let room : c.wanted-want.result ≤ length c.loop-done.out = omega (arith, want_is, same) in
    rw (← want_is) (stops_words_on (g.S.Source.view c.args.pages.now.source) (g.S.Source.view c.loop-done.pages.source) (g.S.Source.view c.step_words32.new.pages.source) c.args.stream.now 32 c.args.chunk.now c.loop-done.chunk c.step_words32.new.chunk c.wanted-want.result c.loop-done.done c.in-Err.fault c.args.out.now c.loop-done.out (take (c.wanted-want.result - c.loop-done.done) (drop c.loop-done.done c.loop-done.out)) c.step_words32.new.out (omega (arith, below)) room refl inv.reads c.in-Err.ensures.items)

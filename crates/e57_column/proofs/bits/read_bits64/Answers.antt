use Rattle.std.proofs.Common.{◌-◌, ◌≤◌, length, take, drop, refl, ◌∙◌, arith}
use Rattle.e57_layout.specs.Values.{word}
use Rattle.e57_column.proofs.Joining.{reads_into_on, stops_into_on, reads_into_none, placed-some, placed-is}
use Rattle.e57_column.proofs.bits.read_bits64.Goals as goal
use Rattle.e57_stream.proofs.Parts.{length_of_part}

pub loop-done-init : goal.loop-done-init
loop-done-init g c = record {
  same_size = refl;
  same_header = refl;
  want_is = c.wanted-want.ensures;
  few = omega arith;
  column = c.requires.column;
  is_placed = c.requires.placed;
  at = omega arith;
  reads = reads_into_none 0 word (g.S.Source.view c.args.pages.now.source) c.args.state.now c.args.out.now (placed-some c.args.state.now c.requires.placed);
}

pub loop-done-preserved : goal.loop-done-preserved
loop-done-preserved g c =
    let inv = c.loop-done.invariant in
    let below = c.loop-done-test.true in
    let want_is = inv.want_is in
    let same = inv.reads.rest.same_length in
    let step = c.in-Ok.ensures.items in
    let few = step.1 in
    let at = inv.at in
    let place = placed-is c.step_bits64.new.state _ step.2.reads.is_at in
    let now = place.1 in
    let size = length_of_part c.loop-done.out (take (c.wanted-want.result - c.loop-done.done) (drop c.loop-done.done c.loop-done.out)) c.wanted-want.result c.loop-done.done (omega (arith, below)) (omega (arith, want_is, same)) refl in
    record {
      same_size = c.in-Ok.ensures.length ∙ inv.same_size;
      same_header = c.in-Ok.ensures.header ∙ inv.same_header;
      want_is = want_is;
      few = omega (arith, few, size, below);
      column = c.in-Ok.ensures.column;
      is_placed = place.0;
      at = omega (arith, now, at);
      reads = reads_into_on 0 word (g.S.Source.view c.args.pages.now.source) (g.S.Source.view c.loop-done.pages.source) (g.S.Source.view c.step_bits64.new.pages.source) c.args.state.now c.loop-done.state c.step_bits64.new.state c.wanted-want.result c.loop-done.done c.in-Ok.n c.args.out.now c.loop-done.out (take (c.wanted-want.result - c.loop-done.done) (drop c.loop-done.done c.loop-done.out)) c.step_bits64.new.out (omega (arith, below)) (omega (arith, want_is, same)) refl step.0 few at inv.reads step.2;
    }

pub returns-in-Err-clause-items : goal.returns-in-Err-clause-items
returns-in-Err-clause-items g c =
    let inv = c.loop-done.invariant in
    let below = c.loop-done-test.true in
    let want_is = inv.want_is in
    let same = inv.reads.rest.same_length in
    let room : c.wanted-want.result ≤ length c.loop-done.out = omega (arith, want_is, same) in
    rw (← want_is) (stops_into_on 0 word (g.S.Source.view c.args.pages.now.source) (g.S.Source.view c.loop-done.pages.source) (g.S.Source.view c.step_bits64.new.pages.source) c.args.state.now c.loop-done.state c.step_bits64.new.state c.wanted-want.result c.loop-done.done c.in-Err.stopped.done c.in-Err.stopped.fault c.args.out.now c.loop-done.out (take (c.wanted-want.result - c.loop-done.done) (drop c.loop-done.done c.loop-done.out)) c.step_bits64.new.out (omega (arith, below)) room refl inv.at inv.reads c.in-Err.ensures.items)

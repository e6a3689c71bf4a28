use Rattle.std.specs.Prelude.{Option, ℕ}
use Rattle.std.proofs.Common.{◌-◌, ◌≤◌, length, take, drop, refl, subst, ◌∙◌, arith}
use Rattle.e57_column.specs.Texts.{ReadsSome}
use Rattle.e57_column.proofs.Joining.{placed-some, placed-is}
use Rattle.e57_column.proofs.Strings.{row_none, row_more, row_left, row_stops}
use Rattle.e57_column.proofs.texts.read_texts.Goals as goal
use Rattle.e57_stream.proofs.Parts.{length_of_part}

pub loop-done-init : goal.loop-done-init
loop-done-init g c = record {
  same_size = refl;
  same_header = refl;
  want_is = c.wanted-want.ensures;
  few = omega arith;
  column = c.requires.column;
  is_placed = c.requires.placed;
  at = omega arith;
  row = row_none (g.S.Source.view c.args.pages.now.source) c.args.state.now c.args.bytes.now c.args.ends.now (placed-some c.args.state.now c.requires.placed);
}

pub returns-in-Err-clause-texts : goal.returns-in-Err-clause-texts
returns-in-Err-clause-texts g c =
    let inv = c.loop-done.invariant in
    let below = c.loop-done-test.true in
    let want_is = inv.want_is in
    let same = inv.row.fills.same_ends in
    let room : c.wanted-want.result ≤ length c.loop-done.ends = omega (arith, want_is, same) in
    rw (← want_is) (row_stops (g.S.Source.view c.args.pages.now.source) (g.S.Source.view c.loop-done.pages.source) (g.S.Source.view c.step_texts.new.pages.source) c.args.state.now c.loop-done.state c.step_texts.new.state c.wanted-want.result c.loop-done.done c.in-Err.stopped.done c.loop-done.filled c.in-Err.stopped.fault c.args.bytes.now c.loop-done.bytes c.step_texts.new.bytes c.args.ends.now c.loop-done.ends (take (c.wanted-want.result - c.loop-done.done) (drop c.loop-done.done c.loop-done.ends)) c.step_texts.new.ends (omega (arith, below)) room refl inv.at inv.row c.in-Err.ensures.texts)

pub returns-in-Some-clause-texts : goal.returns-in-Some-clause-texts
returns-in-Some-clause-texts g c =
    let inv = c.loop-done.invariant in
    let below = c.loop-done-test.true in
    let want_is = inv.want_is in
    let same = inv.row.fills.same_ends in
    let s0 = g.S.Source.view c.args.pages.now.source in
    let s1 = g.S.Source.view c.loop-done.pages.source in
    let s2 = g.S.Source.view c.step_texts.new.pages.source in
    let part = take (c.wanted-want.result - c.loop-done.done) (drop c.loop-done.done c.loop-done.ends) in
    rw (← want_is, c.left.ensures)
    (row_left s0 s1 s2 c.args.state.now c.loop-done.state c.step_texts.new.state c.wanted-want.result c.loop-done.done c.in-Ok.some.count c.loop-done.filled c.in-Some.n c.args.bytes.now c.loop-done.bytes c.step_texts.new.bytes c.args.ends.now c.loop-done.ends part c.step_texts.new.ends
    (omega (arith, below)) (omega (arith, want_is, same)) refl inv.at inv.row
    (subst (λ (next : Option ℕ). ReadsSome s1 c.loop-done.state c.loop-done.filled c.in-Ok.some.count next c.loop-done.bytes c.step_texts.new.bytes part c.step_texts.new.ends s2 c.step_texts.new.state) c.in-Some.is c.in-Ok.ensures.texts.1))

pub loop-done-preserved : goal.loop-done-preserved
loop-done-preserved g c =
    let inv = c.loop-done.invariant in
    let below = c.loop-done-test.true in
    let want_is = inv.want_is in
    let same = inv.row.fills.same_ends in
    let s0 = g.S.Source.view c.args.pages.now.source in
    let s1 = g.S.Source.view c.loop-done.pages.source in
    let s2 = g.S.Source.view c.step_texts.new.pages.source in
    let part = take (c.wanted-want.result - c.loop-done.done) (drop c.loop-done.done c.loop-done.ends) in
    let step = subst (λ (next : Option ℕ). ReadsSome s1 c.loop-done.state c.loop-done.filled c.in-Ok.some.count next c.loop-done.bytes c.step_texts.new.bytes part c.step_texts.new.ends s2 c.step_texts.new.state) c.in-None.is c.in-Ok.ensures.texts.1 in
    let few = step.few in
    let at = inv.at in
    let place = placed-is c.step_texts.new.state _ step.reads.is_at in
    let now = place.1 in
    let size = length_of_part c.loop-done.ends part c.wanted-want.result c.loop-done.done (omega (arith, below)) (omega (arith, want_is, same)) refl in
    record {
      same_size = c.in-Ok.ensures.length ∙ inv.same_size;
      same_header = c.in-Ok.ensures.header ∙ inv.same_header;
      want_is = want_is;
      few = omega (arith, few, size, below);
      column = c.in-Ok.ensures.column;
      is_placed = place.0;
      at = omega (arith, now, at);
      row = row_more s0 s1 s2 c.args.state.now c.loop-done.state c.step_texts.new.state c.wanted-want.result c.loop-done.done c.in-Ok.some.count c.loop-done.filled c.in-Ok.some.filled c.args.bytes.now c.loop-done.bytes c.step_texts.new.bytes c.args.ends.now c.loop-done.ends part c.step_texts.new.ends
          (omega (arith, below)) (omega (arith, want_is, same)) refl inv.at c.in-Ok.ensures.texts.0 inv.row step;
    }

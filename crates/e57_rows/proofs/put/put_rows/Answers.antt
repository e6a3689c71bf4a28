use Rattle.std.proofs.Common.{◌≡◌, ◌∙◌, ◌-◌, List, refl, subst, ap, arith}
use Rattle.std.specs.List.{AllByRecursion}
use Rattle.e57_base.specs.Fault.{open_as_run}
use Rattle.e57_base.specs.declared.fault.RunFault.TheVariants.{Memory}
use Rattle.e57_blocks.specs.Block.{Block, Holds}
use Rattle.e57_blocks.specs.Fields.{slice_of}
use Rattle.e57_rows.specs.Putting.{PutsRows, FailsRows}
use Rattle.e57_rows.specs.Blocks.{held_rows}
use Rattle.e57_rows.specs.Shown.{show_of}
use Rattle.e57_rows.proofs.Lines.{given_for, given_shown, given_none}
use Rattle.e57_rows.proofs.Puts.{PutsTo, beside_on, fails_first, fills_part, holds_later, puts_none, ready_on, run_on, run_not, run_unwritten, run_unput}
use Rattle.e57_rows.proofs.put.put_rows.Goals as goal
use Rattle.e57_base.proofs.Told.{told_all}
use Rattle.e57_base.proofs.Options.{by_error}

pub returns-in_err-blocks-clause-rows : goal.returns-in_err-blocks-clause-rows
returns-in_err-blocks-clause-rows g c =
    let show = show_of c.args.numbers c.args.fields.now in
    let a = slice_of c.args.section.now c.args.fixed c.args.fields.now c.args.asked.now c.args.from c.args.count in
    let old = g.S.Source.view c.args.pages.now.source in
    let out = g.O.Sink.view c.args.out.now in
    by_error (λ _. PutsRows show a old old out out) (λ fault. FailsRows show a old old out out fault) Memory c.from_residual-in_err-blocks.result c.from_residual-in_err-blocks.ensures.1 (fails_first show a old out)

pub returns-in_err-lines-clause-rows : goal.returns-in_err-lines-clause-rows
returns-in_err-lines-clause-rows g c =
    let show = show_of c.args.numbers c.args.fields.now in
    let a = slice_of c.args.section.now c.args.fixed c.args.fields.now c.args.asked.now c.args.from c.args.count in
    let old = g.S.Source.view c.args.pages.now.source in
    let out = g.O.Sink.view c.args.out.now in
    by_error (λ _. PutsRows show a old old out out) (λ fault. FailsRows show a old old out out fault) Memory c.from_residual.result c.from_residual.ensures.1 (fails_first show a old out)

pub loop-at-init : goal.loop-at-init
loop-at-init g c =
    let show = show_of c.args.numbers c.args.fields.now in
    let a = slice_of c.args.section.now c.args.fixed c.args.fields.now c.args.asked.now c.args.from c.args.count in
    let old = g.S.Source.view c.args.pages.now.source in
    let out = g.O.Sink.view c.args.out.now in
    let opens = c.in_ok-blocks.ensures.opens in
    let none : 0 ≡ c.args.from - c.args.from = omega arith in
    record {
      same_size = refl;
      same_header = refl;
      end = refl;
      low = omega arith;
      high = omega arith;
      are = record { are_of = c.in_ok-blocks.ensures.of; are = opens.are };
      ready = opens.ready c.args.from;
      holds = told_all (λ file. AllByRecursion (Holds file) c.in_ok-blocks.blocks.blocks) old.held opens.holds;
      puts = subst (λ n. PutsTo show a n old old out out) none (puts_none show a old out);
    }

pub returns-in_err-n-clause-rows : goal.returns-in_err-n-clause-rows
returns-in_err-n-clause-rows g c =
    let show = show_of c.args.numbers c.args.fields.now in
    let a = slice_of c.args.section.now c.args.fixed c.args.fields.now c.args.asked.now c.args.from c.args.count in
    let old = g.S.Source.view c.args.pages.now.source in
    let mid = g.S.Source.view c.loop-at.pages.source in
    let new = g.S.Source.view c.fill.new.pages.source in
    let out = g.O.Sink.view c.args.out.now in
    let out' = g.O.Sink.view c.loop-at.out in
    let inv = c.loop-at.invariant in
    let few = c.run_length.ensures.few in
    let below = c.loop-at-test.true in
    by_error (λ _. PutsRows show a old new out out') (λ fault. FailsRows show a old new out out' fault) (open_as_run c.in_err-n.field-0.0) c.from_residual-in_err-n.result c.from_residual-in_err-n.ensures.1
    (run_not show a c.loop-at.at c.run_length.result old mid new out out' c.loop-at.blocks c.fill.new.self.blocks c.in_err-n.field-0.0 c.run_length.ensures.some inv.low (omega (arith, few, below)) inv.are inv.puts c.in_err-n.ensures.fills)

pub returns-in_err-text-clause-rows : goal.returns-in_err-text-clause-rows
returns-in_err-text-clause-rows g c =
    let show = show_of c.args.numbers c.args.fields.now in
    let a = slice_of c.args.section.now c.args.fixed c.args.fields.now c.args.asked.now c.args.from c.args.count in
    let old = g.S.Source.view c.args.pages.now.source in
    let mid = g.S.Source.view c.loop-at.pages.source in
    let new = g.S.Source.view c.fill.new.pages.source in
    let out = g.O.Sink.view c.args.out.now in
    let out' = g.O.Sink.view c.loop-at.out in
    let inv = c.loop-at.invariant in
    let few = c.run_length.ensures.few in
    let below = c.loop-at-test.true in
    by_error (λ _. PutsRows show a old new out out') (λ fault. FailsRows show a old new out out' fault) Memory c.from_residual-in_err-text.result c.from_residual-in_err-text.ensures.1
    (run_unwritten show a c.loop-at.at c.run_length.result c.in_ok-n.n old mid new out out' c.loop-at.blocks c.fill.new.self.blocks inv.low (omega (arith, few, below)) inv.are inv.puts c.in_ok-n.ensures.fills)

pub rows_shown-requires-clause-lines : goal.rows_shown-requires-clause-lines
rows_shown-requires-clause-lines g c =
    let a = slice_of c.args.section.now c.args.fixed c.args.fields.now c.args.asked.now c.args.from c.args.count in
    let mid = g.S.Source.view c.loop-at.pages.source in
    let new = g.S.Source.view c.fill.new.pages.source in
    let after = c.fill.new.self.blocks in
    given_for c.args.numbers c.args.fields.now c.args.asked.now c.deref.result.now c.blocks-in-loop-at-2.result.now after (c.deref.ensures.value ∙ c.in_ok-lines.ensures) c.blocks-in-loop-at-2.ensures
    (fills_part a c.loop-at.blocks after c.loop-at.at c.run_length.result c.in_ok-n.n mid new c.loop-at.invariant.are c.in_ok-n.ensures.fills).are.fields

pub rows_shown-requires-clause-none : goal.rows_shown-requires-clause-none
rows_shown-requires-clause-none g c = λ is. given_none c.args.numbers c.args.fields.now c.args.asked.now c.deref.result.now (c.deref.ensures.value ∙ c.in_ok-lines.ensures) is

pub loop-at-preserved : goal.loop-at-preserved
loop-at-preserved g c =
    let show = show_of c.args.numbers c.args.fields.now in
    let a = slice_of c.args.section.now c.args.fixed c.args.fields.now c.args.asked.now c.args.from c.args.count in
    let old = g.S.Source.view c.args.pages.now.source in
    let mid = g.S.Source.view c.loop-at.pages.source in
    let new = g.S.Source.view c.fill.new.pages.source in
    let out = g.O.Sink.view c.args.out.now in
    let out' = g.O.Sink.view c.loop-at.out in
    let out'' = g.O.Sink.view c.put.new.self in
    let inv = c.loop-at.invariant in
    let few = c.run_length.ensures.few in
    let below = c.loop-at-test.true in
    let low = inv.low in
    let after = c.fill.new.self in
    let fills = c.in_ok-n.ensures.fills in
    let part = fills_part a c.loop-at.blocks after.blocks c.loop-at.at c.run_length.result c.in_ok-n.n mid new inv.are fills in
    let some = part.few in
    let shown = given_shown c.args.numbers c.args.fields.now c.args.asked.now c.deref.result.now c.blocks-in-loop-at-2.result.now after.blocks (c.deref.ensures.value ∙ c.in_ok-lines.ensures) c.blocks-in-loop-at-2.ensures part.are.fields in
    let text : c.deref-in-loop-at.result.now ≡ held_rows show after.blocks c.loop-at.at c.in_ok-n.n =
    c.deref-in-loop-at.ensures.value ∙ c.in_ok-text.ensures show shown ∙ ap (λ (blocks : List Block). held_rows show blocks c.loop-at.at c.in_ok-n.n) c.blocks-in-loop-at-2.ensures in
    record {
      same_size = c.in_ok-n.ensures.length ∙ inv.same_size;
      same_header = c.in_ok-n.ensures.header ∙ inv.same_header;
      end = refl;
      low = omega (arith, low);
      high = omega (arith, few, below, some);
      are = beside_on a c.loop-at.blocks after inv.are c.in_ok-n.ensures.of part.are;
      ready = ready_on c.loop-at.at c.in_ok-n.n after.blocks part.have;
      holds = holds_later mid new after.blocks part.met.asks.same.held part.holds;
      puts = run_on show a c.loop-at.at c.run_length.result c.in_ok-n.n old mid new out out' out'' c.loop-at.blocks after.blocks c.deref-in-loop-at.result.now low (omega (arith, few, below)) inv.are inv.puts fills text c.in-Ok.ensures.written c.in-Ok.ensures.faults;
    }

pub returns-in-Err-clause-rows : goal.returns-in-Err-clause-rows
returns-in-Err-clause-rows g c =
    let show = show_of c.args.numbers c.args.fields.now in
    let a = slice_of c.args.section.now c.args.fixed c.args.fields.now c.args.asked.now c.args.from c.args.count in
    let old = g.S.Source.view c.args.pages.now.source in
    let mid = g.S.Source.view c.loop-at.pages.source in
    let new = g.S.Source.view c.fill.new.pages.source in
    let out = g.O.Sink.view c.args.out.now in
    let out' = g.O.Sink.view c.loop-at.out in
    let out'' = g.O.Sink.view c.put.new.self in
    let inv = c.loop-at.invariant in
    let few = c.run_length.ensures.few in
    let below = c.loop-at-test.true in
    let after = c.fill.new.self in
    let fills = c.in_ok-n.ensures.fills in
    let part = fills_part a c.loop-at.blocks after.blocks c.loop-at.at c.run_length.result c.in_ok-n.n mid new inv.are fills in
    let shown = given_shown c.args.numbers c.args.fields.now c.args.asked.now c.deref.result.now c.blocks-in-loop-at-2.result.now after.blocks (c.deref.ensures.value ∙ c.in_ok-lines.ensures) c.blocks-in-loop-at-2.ensures part.are.fields in
    let text : c.deref-in-loop-at.result.now ≡ held_rows show after.blocks c.loop-at.at c.in_ok-n.n =
    c.deref-in-loop-at.ensures.value ∙ c.in_ok-text.ensures show shown ∙ ap (λ (blocks : List Block). held_rows show blocks c.loop-at.at c.in_ok-n.n) c.blocks-in-loop-at-2.ensures in
    run_unput show a c.loop-at.at c.run_length.result c.in_ok-n.n old mid new out out' out'' c.loop-at.blocks after.blocks c.deref-in-loop-at.result.now inv.low (omega (arith, few, below)) inv.are inv.puts fills text c.in-Err.ensures.written c.in-Err.ensures.cause

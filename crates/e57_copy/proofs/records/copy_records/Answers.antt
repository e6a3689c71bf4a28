use Rattle.std.proofs.Common.{◌≡◌, ◌-◌, ◌∙◌, List, refl, sym, subst, ap, arith}
use Rattle.e57_base.specs.declared.fault.RunFault.{RunFault}
use Rattle.e57_stream.proofs.AskingLaws.{asks_met_none}
use Rattle.e57_blocks.specs.Block.{Block}
use Rattle.e57_blocks.specs.Fields.{slice_at, OnSlice}
use Rattle.e57_copy.specs.Adding.{block_kinds, held_columns, AddsRecords, LosesRun}
use Rattle.e57_copy.specs.Copying.{CopiesFirst, CopiesNot}
use Rattle.e57_copy.specs.Items.{AreAlike}
use Rattle.e57_copy.specs.Limits.{IsRunOutside}
use Rattle.e57_layout.specs.Values.{ItemKind}
use Rattle.e57_chunk_out.specs.CloudCalls.{kinds_in}
use Rattle.e57_copy.proofs.Adding.{still_standing}
use Rattle.e57_copy.proofs.Copying.{asks_on, copies_none, copies_on, kinds_same, same_filled, same_none, stops_fill, stops_outside, stops_put}
use Rattle.e57_copy.proofs.records.copy_records.Goals as goal

pub loop-at-init : goal.loop-at-init
loop-at-init g c =
    let old = g.S.Source.view c.args.pages.now.source in
    let a = slice_at c.args.blocks.now c.args.from c.args.count in
    let none : 0 ≡ c.args.from - c.args.from = omega arith in
    record {
      same_size = refl;
      same_header = refl;
      end = refl;
      low = omega arith;
      high = omega arith;
      same = same_none c.args.blocks.now;
      met = asks_met_none (OnSlice a) old;
      copies = subst (λ n. CopiesFirst g.T.Target.view a n old c.args.cloud.now c.args.out.now old c.args.blocks.now c.args.cloud.now c.args.out.now) none
          (copies_none g.T.Target.view c.args.blocks.now c.args.from c.args.count old c.args.cloud.now c.args.out.now (subst (AreAlike (block_kinds c.args.blocks.now.blocks)) (sym c.requires.kinds) c.requires.alike) c.requires.stand c.requires.between c.requires.unspent c.requires.state);
      standing = c.requires.standing;
    }

pub returns-in-Err-clause-copies : goal.returns-in-Err-clause-copies
returns-in-Err-clause-copies g c =
    let old = g.S.Source.view c.args.pages.now.source in
    let mid = g.S.Source.view c.loop-at.pages.source in
    let new = g.S.Source.view c.fill.new.pages.source in
    let a = slice_at c.args.blocks.now c.args.from c.args.count in
    let inv = c.loop-at.invariant in
    let few = c.run_length.ensures.few in
    let below = c.loop-at-test.true in
    subst (λ (x : RunFault). CopiesNot g.T.Target.view a old c.args.cloud.now c.args.out.now x new c.fill.new.self c.loop-at.cloud c.loop-at.out) (sym c.into.ensures)
    (stops_fill g.T.Target.view c.args.blocks.now c.args.from c.args.count old c.args.cloud.now c.args.out.now c.loop-at.at c.run_length.result mid c.loop-at.blocks c.loop-at.cloud c.loop-at.out inv.met inv.same inv.low (omega (arith, few, below)) inv.copies new c.fill.new.self
    c.run_length.ensures.some (subst (AreAlike (block_kinds c.args.blocks.now.blocks)) (sym c.requires.kinds) c.requires.alike) c.in-Err.ensures.of c.in-Err.fault c.in-Err.ensures.fills)

pub test_run-requires-clause-alike : goal.test_run-requires-clause-alike
test_run-requires-clause-alike g c =
    let old = g.S.Source.view c.args.pages.now.source in
    let mid = g.S.Source.view c.loop-at.pages.source in
    let new = g.S.Source.view c.fill.new.pages.source in
    let inv = c.loop-at.invariant in
    let few = c.run_length.ensures.few in
    let below = c.loop-at-test.true in
    let same = same_filled g.T.Target.view c.args.blocks.now c.args.from c.args.count old c.args.cloud.now c.args.out.now c.loop-at.at c.run_length.result mid c.loop-at.blocks c.loop-at.cloud c.loop-at.out inv.met inv.same inv.low (omega (arith, few, below)) inv.copies c.in-Ok.n new
    c.fill.new.self c.in-Ok.ensures.of c.in-Ok.ensures.fills in
    subst (λ (kinds : List ItemKind). AreAlike kinds (kinds_in c.args.fields.now)) (sym (ap (λ (blocks : List Block). block_kinds blocks) c.blocks-in-loop-at.ensures ∙ kinds_same c.args.blocks.now c.fill.new.self same)) c.requires.alike

pub returns-in-Err-test_run-clause-copies : goal.returns-in-Err-test_run-clause-copies
returns-in-Err-test_run-clause-copies g c =
    let old = g.S.Source.view c.args.pages.now.source in
    let mid = g.S.Source.view c.loop-at.pages.source in
    let new = g.S.Source.view c.fill.new.pages.source in
    let inv = c.loop-at.invariant in
    let few = c.run_length.ensures.few in
    let below = c.loop-at-test.true in
    stops_outside g.T.Target.view c.args.blocks.now c.args.from c.args.count old c.args.cloud.now c.args.out.now c.loop-at.at c.run_length.result mid c.loop-at.blocks c.loop-at.cloud c.loop-at.out inv.met inv.same inv.low (omega (arith, few, below)) inv.copies c.in-Ok.n new c.fill.new.self
    c.in-Ok.ensures.of c.in-Ok.ensures.fills c.args.fields.now c.in-Err-test_run.found c.requires.kinds
    (subst (λ (blocks : List Block). IsRunOutside c.args.fields.now blocks c.loop-at.at c.in-Ok.n c.in-Err-test_run.found) c.blocks-in-loop-at.ensures c.in-Err-test_run.ensures)

pub put_run-requires-clause-alike : goal.put_run-requires-clause-alike
put_run-requires-clause-alike g c =
    let old = g.S.Source.view c.args.pages.now.source in
    let mid = g.S.Source.view c.loop-at.pages.source in
    let new = g.S.Source.view c.fill.new.pages.source in
    let inv = c.loop-at.invariant in
    let few = c.run_length.ensures.few in
    let below = c.loop-at-test.true in
    let same = same_filled g.T.Target.view c.args.blocks.now c.args.from c.args.count old c.args.cloud.now c.args.out.now c.loop-at.at c.run_length.result mid c.loop-at.blocks c.loop-at.cloud c.loop-at.out inv.met inv.same inv.low (omega (arith, few, below)) inv.copies c.in-Ok.n new
    c.fill.new.self c.in-Ok.ensures.of c.in-Ok.ensures.fills in
    subst (AreAlike (block_kinds c.blocks-in-loop-at-2.result.now)) (sym (inv.copies.adds.kinds ∙ c.requires.kinds))
    (subst (λ (kinds : List ItemKind). AreAlike kinds (kinds_in c.args.fields.now)) (sym (ap (λ (blocks : List Block). block_kinds blocks) c.blocks-in-loop-at-2.ensures ∙ kinds_same c.args.blocks.now c.fill.new.self same)) c.requires.alike)

pub returns-in-Err-put_run-clause-copies : goal.returns-in-Err-put_run-clause-copies
returns-in-Err-put_run-clause-copies g c =
    let old = g.S.Source.view c.args.pages.now.source in
    let mid = g.S.Source.view c.loop-at.pages.source in
    let new = g.S.Source.view c.fill.new.pages.source in
    let a = slice_at c.args.blocks.now c.args.from c.args.count in
    let inv = c.loop-at.invariant in
    let few = c.run_length.ensures.few in
    let below = c.loop-at-test.true in
    subst (λ (x : RunFault). CopiesNot g.T.Target.view a old c.args.cloud.now c.args.out.now x new c.fill.new.self c.put_run.new.cloud c.put_run.new.out) (sym c.into-in-Err-put_run.ensures)
    (stops_put g.T.Target.view c.args.blocks.now c.args.from c.args.count old c.args.cloud.now c.args.out.now c.loop-at.at c.run_length.result mid c.loop-at.blocks c.loop-at.cloud c.loop-at.out inv.met inv.same inv.low (omega (arith, few, below)) inv.copies c.in-Ok.n new c.fill.new.self
    c.in-Ok.ensures.of c.in-Ok.ensures.fills c.in-Err-put_run.fault c.put_run.new.cloud c.put_run.new.out
    (subst (λ (blocks : List Block). LosesRun g.T.Target.view c.in-Ok.n (held_columns blocks c.loop-at.at c.in-Ok.n) c.loop-at.cloud c.loop-at.out c.in-Err-put_run.fault c.put_run.new.cloud c.put_run.new.out) c.blocks-in-loop-at-2.ensures c.in-Err-put_run.ensures))

pub loop-at-preserved : goal.loop-at-preserved
loop-at-preserved g c =
    let old = g.S.Source.view c.args.pages.now.source in
    let mid = g.S.Source.view c.loop-at.pages.source in
    let new = g.S.Source.view c.fill.new.pages.source in
    let inv = c.loop-at.invariant in
    let few = c.run_length.ensures.few in
    let below = c.loop-at-test.true in
    let low = inv.low in
    let after = c.fill.new.self in
    let fills = c.in-Ok.ensures.fills in
    let within = fills.few in
    let adds : AddsRecords g.T.Target.view c.in-Ok.n (held_columns after.blocks c.loop-at.at c.in-Ok.n) c.loop-at.cloud c.loop-at.out c.put_run.new.cloud c.put_run.new.out =
    subst (λ (blocks : List Block). AddsRecords g.T.Target.view c.in-Ok.n (held_columns blocks c.loop-at.at c.in-Ok.n) c.loop-at.cloud c.loop-at.out c.put_run.new.cloud c.put_run.new.out) c.blocks-in-loop-at-2.ensures c.in_default-put_run.ensures in
    record {
      same_size = c.in-Ok.ensures.length ∙ inv.same_size;
      same_header = c.in-Ok.ensures.header ∙ inv.same_header;
      end = refl;
      low = omega (arith, low);
      high = omega (arith, few, below, within);
      same = same_filled g.T.Target.view c.args.blocks.now c.args.from c.args.count old c.args.cloud.now c.args.out.now c.loop-at.at c.run_length.result mid c.loop-at.blocks c.loop-at.cloud c.loop-at.out inv.met inv.same inv.low (omega (arith, few, below)) inv.copies c.in-Ok.n new after c.in-Ok.ensures.of fills;
      met = asks_on g.T.Target.view c.args.blocks.now c.args.from c.args.count old c.args.cloud.now c.args.out.now c.loop-at.at c.run_length.result mid c.loop-at.blocks c.loop-at.cloud c.loop-at.out inv.met inv.same inv.low (omega (arith, few, below)) inv.copies new fills.met;
      copies = copies_on g.T.Target.view c.args.blocks.now c.args.from c.args.count old c.args.cloud.now c.args.out.now c.loop-at.at c.run_length.result mid c.loop-at.blocks c.loop-at.cloud c.loop-at.out inv.met inv.same inv.low (omega (arith, few, below)) inv.copies c.in-Ok.n new after c.in-Ok.ensures.of
          fills c.put_run.new.cloud c.put_run.new.out adds;
      standing = still_standing g.T.Target.view c.in-Ok.n (held_columns after.blocks c.loop-at.at c.in-Ok.n) c.loop-at.cloud c.put_run.new.cloud c.loop-at.out c.put_run.new.out adds inv.standing;
    }

use Rattle.std.proofs.Common.{◌≡◌, ◌<◌, ◌∙◌, ◌+◌, ◌%◌, ◌^◌, ◌≤◌, List, [], get_or, refl, sym, subst, arith}
use Rattle.std.specs.List.{sum_by}
use Rattle.e57_stream.proofs.AskingLaws.{asks_met_none}
use Rattle.e57_blocks.specs.Block.{Block}
use Rattle.e57_blocks.specs.Fields.{slice_at, OnSlice}
use Rattle.e57_copy.specs.Adding.{held_columns}
use Rattle.e57_copy.proofs.Copying.{same_none}
use Rattle.e57_trial.specs.Summing.{raw_number}
use Rattle.e57_trial.proofs.Gathering.{all-summed, asks-on, many-on, same-on, stand-on, stops, sums-none, sums-on}
use Rattle.e57_trial.proofs.sum.sum_records.Goals as goal

pub loop-at-init : goal.loop-at-init
loop-at-init g c =
    let old = g.S.Source.view c.args.pages.now.source in
    record {
      same_size = refl;
      same_header = refl;
      high = omega arith;
      same = same_none c.args.blocks.now;
      some = c.requires.some;
      met = asks_met_none (OnSlice (slice_at c.args.blocks.now 0 c.args.count)) old;
      sums = sums-none c.args.blocks.now c.args.count old;
      stand = c.requires.stand;
    }

pub returns-in-Err-clause-sum : goal.returns-in-Err-clause-sum
returns-in-Err-clause-sum g c =
    let inv = c.loop-at.invariant in
    let few = c.run_length.ensures.few in
    let below = c.loop-at-test.true in
    stops c.args.blocks.now c.args.count (g.S.Source.view c.args.pages.now.source) c.loop-at.at c.run_length.result (g.S.Source.view c.loop-at.pages.source) c.loop-at.blocks c.loop-at.total
    inv.met inv.same (omega (arith, few, below)) inv.sums (g.S.Source.view c.fill.new.pages.source) c.fill.new.self.blocks c.run_length.ensures.some c.in-Err.fault c.in-Err.ensures.fills

pub loop-at-preserved : goal.loop-at-preserved
loop-at-preserved g c =
    let old = g.S.Source.view c.args.pages.now.source in
    let mid = g.S.Source.view c.loop-at.pages.source in
    let new = g.S.Source.view c.fill.new.pages.source in
    let inv = c.loop-at.invariant in
    let few = c.run_length.ensures.few in
    let below = c.loop-at-test.true in
    let after = c.fill.new.self in
    let fills = c.in-Ok.ensures.fills in
    let within = fills.few in
    let high : c.loop-at.at + c.run_length.result ≤ c.args.count = omega (arith, few, below) in
    let next = c.add_records-total.result in
    let first = c.args.blocks.now in
    record {
      same_size = c.in-Ok.ensures.length ∙ inv.same_size;
      same_header = c.in-Ok.ensures.header ∙ inv.same_header;
      high = omega (arith, high, within);
      same = same-on first c.args.count old c.loop-at.at c.run_length.result mid c.loop-at.blocks c.loop-at.total inv.met inv.same high inv.sums c.in-Ok.n new after c.in-Ok.ensures.of fills;
      some = subst (λ n. 0 < n) (sym (many-on first c.args.count old c.loop-at.at c.run_length.result mid c.loop-at.blocks c.loop-at.total inv.met inv.same high inv.sums c.in-Ok.n new after c.in-Ok.ensures.of fills)) c.requires.some;
      met = asks-on first c.args.count old c.loop-at.at c.run_length.result mid c.loop-at.blocks c.loop-at.total inv.met inv.same high inv.sums new fills.met;
      sums = sums-on first c.args.count old c.loop-at.at c.run_length.result mid c.loop-at.blocks c.loop-at.total inv.met inv.same high inv.sums c.in-Ok.n new after c.in-Ok.ensures.of fills next
          (subst (λ (blocks : List Block). next ≡ (c.loop-at.total + sum_by raw_number (get_or (held_columns blocks c.loop-at.at c.in-Ok.n) 0 [])) % 2 ^ 64) c.blocks-in-loop-at.ensures c.add_records-total.ensures);
      stand = stand-on first c.args.count old c.loop-at.at c.run_length.result mid c.loop-at.blocks c.loop-at.total inv.met inv.same high inv.sums c.in-Ok.n new after c.in-Ok.ensures.of fills;
    }

pub returns-clause-sum : goal.returns-clause-sum
returns-clause-sum g c =
    let past = c.loop-at-test.false in
    all-summed (slice_at c.args.blocks.now 0 c.args.count) c.loop-at.at (g.S.Source.view c.args.pages.now.source) c.loop-at.total (g.S.Source.view c.loop-at.pages.source)
    c.loop-at.invariant.high (omega (arith, past)) c.loop-at.invariant.met c.loop-at.invariant.sums

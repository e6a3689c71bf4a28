use Rattle.std.proofs.Common.{◌<◌, ◌∙◌, ◌+◌, ◌≤◌, List, refl, sym, subst, arith}
use Rattle.std.specs.List.{AllByRecursion}
use Rattle.e57_stream.proofs.AskingLaws.{asks_met_none}
use Rattle.e57_blocks.specs.Block.{Block}
use Rattle.e57_blocks.specs.Fields.{slice_at, OnSlice}
use Rattle.e57_copy.specs.Adding.{held_columns}
use Rattle.e57_copy.proofs.Copying.{same_none}
use Rattle.e57_layout.specs.declared.field.Field.{Field}
use Rattle.e57_repack.specs.Ranges.{AreLimits}
use Rattle.e57_repack.specs.Widening.{AreWidened}
use Rattle.e57_repack.proofs.Gathering.{all-widened, asks-on, many-on, same-on, stand-on, stops, widens-none, widens-on}
use Rattle.e57_repack.proofs.clouds.widen_by_records.Goals as goal

pub loop-at-init : goal.loop-at-init
loop-at-init g c =
    let old = g.S.Source.view c.args.pages.now.source in
    record {
      same_size = refl;
      same_header = refl;
      high = omega arith;
      same = same_none c.args.blocks.now;
      many = c.requires.as_many;
      limits = c.requires.limits;
      met = asks_met_none (OnSlice (slice_at c.args.blocks.now 0 c.args.count)) old;
      widens = widens-none c.args.blocks.now c.args.count c.args.fields.now old c.args.ranges.now.items c.requires.as_many;
      stand = c.requires.stand;
    }

pub returns-in-Err-clause-widens : goal.returns-in-Err-clause-widens
returns-in-Err-clause-widens g c =
    let inv = c.loop-at.invariant in
    let few = c.run_length.ensures.few in
    let below = c.loop-at-test.true in
    stops c.args.blocks.now c.args.count c.args.fields.now (g.S.Source.view c.args.pages.now.source) c.args.ranges.now.items c.requires.as_many c.loop-at.at c.run_length.result (g.S.Source.view c.loop-at.pages.source) c.loop-at.blocks c.loop-at.ranges.items
    inv.met inv.same (omega (arith, few, below)) inv.widens (g.S.Source.view c.fill.new.pages.source) c.fill.new.self.blocks c.run_length.ensures.some c.in-Err.fault c.in-Err.ensures.fills

pub widen_by_run-requires-clause-there : goal.widen_by_run-requires-clause-there
widen_by_run-requires-clause-there g c = subst (λ k. AllByRecursion (λ (field : Field). field.node < k) c.args.fields.now) (sym c.loop-at.invariant.limits.all) c.requires.there

pub loop-at-preserved : goal.loop-at-preserved
loop-at-preserved g c =
    let old = g.S.Source.view c.args.pages.now.source in
    let mid = g.S.Source.view c.loop-at.pages.source in
    let new = g.S.Source.view c.fill.new.pages.source in
    let inv = c.loop-at.invariant in
    let few = c.run_length.ensures.few in
    let below = c.loop-at-test.true in
    let after = c.fill.new.self in
    let fills = c.in-Ok.ensures.fills in
    let within = fills.few in
    let high : c.loop-at.at + c.run_length.result ≤ c.args.count = omega (arith, few, below) in
    let next = c.widen_by_run.new.ranges.items in
    let first = c.args.blocks.now in
    let fields = c.args.fields.now in
    let before = c.args.ranges.now.items in
    record {
      same_size = c.in-Ok.ensures.length ∙ inv.same_size;
      same_header = c.in-Ok.ensures.header ∙ inv.same_header;
      high = omega (arith, high, within);
      same = same-on first c.args.count fields old before c.requires.as_many c.loop-at.at c.run_length.result mid c.loop-at.blocks c.loop-at.ranges.items inv.met inv.same high inv.widens c.in-Ok.n new after c.in-Ok.ensures.of fills;
      many = many-on first c.args.count fields old before c.requires.as_many c.loop-at.at c.run_length.result mid c.loop-at.blocks c.loop-at.ranges.items inv.met inv.same high inv.widens c.in-Ok.n new after c.in-Ok.ensures.of fills;
      limits = subst (λ k. AreLimits k next) inv.limits.all c.widen_by_run.ensures.limits;
      met = asks-on first c.args.count fields old before c.requires.as_many c.loop-at.at c.run_length.result mid c.loop-at.blocks c.loop-at.ranges.items inv.met inv.same high inv.widens new fills.met;
      widens = widens-on first c.args.count fields old before c.requires.as_many c.loop-at.at c.run_length.result mid c.loop-at.blocks c.loop-at.ranges.items inv.met inv.same high inv.widens c.in-Ok.n new after c.in-Ok.ensures.of fills next
          (subst (λ (blocks : List Block). AreWidened c.loop-at.ranges.items fields (held_columns blocks c.loop-at.at c.in-Ok.n) next) c.blocks-in-loop-at.ensures c.widen_by_run.ensures.widened);
      stand = stand-on first c.args.count fields old before c.requires.as_many c.loop-at.at c.run_length.result mid c.loop-at.blocks c.loop-at.ranges.items inv.met inv.same high inv.widens c.in-Ok.n new after c.in-Ok.ensures.of fills;
    }

pub returns-clause-widens : goal.returns-clause-widens
returns-clause-widens g c =
    let past = c.loop-at-test.false in
    all-widened (slice_at c.args.blocks.now 0 c.args.count) c.loop-at.at c.args.fields.now (g.S.Source.view c.args.pages.now.source) c.args.ranges.now.items (g.S.Source.view c.loop-at.pages.source) c.loop-at.ranges.items
    c.loop-at.invariant.high (omega (arith, past)) c.loop-at.invariant.met c.loop-at.invariant.widens

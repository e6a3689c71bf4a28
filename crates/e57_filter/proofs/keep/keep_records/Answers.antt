use Rattle.std.proofs.Common.{◌≡◌, ◌-◌, ◌∙◌, List, take, map, refl, sym, subst, ap, arith}
use Rattle.std.specs.List.{AllByRecursion}
use Rattle.e57_base.specs.declared.fault.RunFault.{RunFault}
use Rattle.e57_layout.specs.Values.{ItemKind}
use Rattle.e57_layout.specs.Items.{AreColumns}
use Rattle.e57_stream.proofs.AskingLaws.{asks_met_none}
use Rattle.e57_blocks.specs.Block.{Block}
use Rattle.e57_blocks.specs.Fields.{slice_at, OnSlice}
use Rattle.e57_plain.specs.Kept.{passing, passing_count}
use Rattle.e57_copy.specs.Adding.{block_kinds, held_columns, AddsRecords, LosesRun}
use Rattle.e57_copy.proofs.Adding.{still_standing}
use Rattle.e57_copy.proofs.Copying.{kinds_same, same_none}
use Rattle.e57_filter.specs.Keeping.{passes_sieve, sieve_of, IsTestOf, KeepsFirst, KeepsNot}
use Rattle.e57_filter.specs.Marking.{passes_here}
use Rattle.e57_filter.proofs.Passing.{number-few}
use Rattle.e57_filter.proofs.Keeping.{asks_on, keeps_none, keeps_on, same_filled, stops_fill, stops_put}
use Rattle.e57_filter.proofs.keep.keep_records.Goals as goal

pub loop-at-init : goal.loop-at-init
loop-at-init g c =
    let s = sieve_of c.args.every c.args.tests.now in
    let old = g.S.Source.view c.args.pages.now.source in
    let a = slice_at c.args.blocks.now c.args.from c.args.count in
    let none : 0 ≡ c.args.from - c.args.from = omega arith in
    record {
      same_size = refl;
      same_header = refl;
      end = refl;
      low = omega arith;
      high = omega arith;
      same = same_none c.args.blocks.now;
      met = asks_met_none (OnSlice a) old;
      keeps = subst (λ n. KeepsFirst g.T.Target.view s c.args.kept a n old c.args.cloud.now c.args.out.now old c.args.blocks.now c.args.cloud.now c.args.out.now) none
          (keeps_none g.T.Target.view s c.args.kept c.args.blocks.now c.args.from c.args.count old c.args.cloud.now c.args.out.now c.requires.kinds c.requires.stand c.requires.between c.requires.unspent c.requires.state);
      standing = c.requires.standing;
      idle = λ same. refl;
    }

pub returns-in-Err-clause-keeps : goal.returns-in-Err-clause-keeps
returns-in-Err-clause-keeps g c =
    let s = sieve_of c.args.every c.args.tests.now in
    let old = g.S.Source.view c.args.pages.now.source in
    let mid = g.S.Source.view c.loop-at.pages.source in
    let new = g.S.Source.view c.fill.new.pages.source in
    let inv = c.loop-at.invariant in
    let few = c.run_length.ensures.few in
    let below = c.loop-at-test.true in
    let a = slice_at c.args.blocks.now c.args.from c.args.count in
    subst (λ (x : RunFault). KeepsNot g.T.Target.view s c.args.kept a old c.args.cloud.now c.args.out.now x new c.fill.new.self c.loop-at.cloud c.loop-at.out) (sym c.into.ensures)
    (stops_fill g.T.Target.view s c.args.kept c.args.blocks.now c.args.from c.args.count old c.args.cloud.now c.args.out.now c.loop-at.at c.run_length.result mid c.loop-at.blocks c.loop-at.cloud c.loop-at.out inv.met inv.same inv.low (omega (arith, few, below)) inv.keeps new c.fill.new.self
    c.run_length.ensures.some c.in-Err.ensures.of c.in-Err.fault c.in-Err.ensures.fills)

pub keep_run-requires-clause-kinds : goal.keep_run-requires-clause-kinds
keep_run-requires-clause-kinds g c =
    let s = sieve_of c.args.every c.args.tests.now in
    let old = g.S.Source.view c.args.pages.now.source in
    let mid = g.S.Source.view c.loop-at.pages.source in
    let new = g.S.Source.view c.fill.new.pages.source in
    let inv = c.loop-at.invariant in
    let few = c.run_length.ensures.few in
    let below = c.loop-at-test.true in
    let same = same_filled g.T.Target.view s c.args.kept c.args.blocks.now c.args.from c.args.count old c.args.cloud.now c.args.out.now c.loop-at.at c.run_length.result mid c.loop-at.blocks c.loop-at.cloud c.loop-at.out inv.met inv.same inv.low (omega (arith, few, below)) inv.keeps c.in-Ok.n new c.fill.new.self c.in-Ok.ensures.of c.in-Ok.ensures.fills in
    inv.keeps.adds.kinds ∙ c.requires.kinds
    ∙ ap (λ (kinds : List ItemKind). take c.args.kept kinds) (sym (kinds_same c.args.blocks.now c.fill.new.self same) ∙ ap (λ (blocks : List Block). block_kinds blocks) (sym c.blocks-in-loop-at.ensures))

pub keep_run-requires-clause-tests : goal.keep_run-requires-clause-tests
keep_run-requires-clause-tests g c =
    let s = sieve_of c.args.every c.args.tests.now in
    let old = g.S.Source.view c.args.pages.now.source in
    let mid = g.S.Source.view c.loop-at.pages.source in
    let new = g.S.Source.view c.fill.new.pages.source in
    let inv = c.loop-at.invariant in
    let few = c.run_length.ensures.few in
    let below = c.loop-at-test.true in
    let same = same_filled g.T.Target.view s c.args.kept c.args.blocks.now c.args.from c.args.count old c.args.cloud.now c.args.out.now c.loop-at.at c.run_length.result mid c.loop-at.blocks c.loop-at.cloud c.loop-at.out inv.met inv.same inv.low (omega (arith, few, below)) inv.keeps c.in-Ok.n new c.fill.new.self c.in-Ok.ensures.of c.in-Ok.ensures.fills in
    subst (λ (kinds : List ItemKind). AllByRecursion (IsTestOf kinds) c.args.tests.now)
    (sym (kinds_same c.args.blocks.now c.fill.new.self same) ∙ ap (λ (blocks : List Block). block_kinds blocks) (sym c.blocks-in-loop-at.ensures)) c.requires.tests

pub keep_run-requires-clause-limit : goal.keep_run-requires-clause-limit
keep_run-requires-clause-limit g c =
    let s = sieve_of c.args.every c.args.tests.now in
    let old = g.S.Source.view c.args.pages.now.source in
    let mid = g.S.Source.view c.loop-at.pages.source in
    let new = g.S.Source.view c.fill.new.pages.source in
    let inv = c.loop-at.invariant in
    let few = c.run_length.ensures.few in
    let below = c.loop-at-test.true in
    let count = inv.keeps.adds.count in
    let most = inv.keeps.adds.at_most in
    let number = number-few (passes_sieve s inv.keeps.columns) 0 (c.loop-at.at - c.args.from) in
    let limit = c.requires.limit in
    let low = inv.low in
    let within = c.in-Ok.ensures.fills.few in
    omega (arith, count, most, number, limit, low, within, few, below)

pub returns-in-Err-keep_run-clause-keeps : goal.returns-in-Err-keep_run-clause-keeps
returns-in-Err-keep_run-clause-keeps g c =
    let s = sieve_of c.args.every c.args.tests.now in
    let old = g.S.Source.view c.args.pages.now.source in
    let mid = g.S.Source.view c.loop-at.pages.source in
    let new = g.S.Source.view c.fill.new.pages.source in
    let inv = c.loop-at.invariant in
    let few = c.run_length.ensures.few in
    let below = c.loop-at-test.true in
    let a = slice_at c.args.blocks.now c.args.from c.args.count in
    let columns = held_columns c.fill.new.self.blocks c.loop-at.at c.in-Ok.n in
    let pass = passes_here s (c.loop-at.at - c.args.from) columns in
    let more = map (passing pass 0) (take c.args.kept columns) in
    let number = passing_count pass 0 c.in-Ok.n in
    let full : AreColumns (block_kinds c.fill.new.self.blocks) c.in-Ok.n columns =
    subst (λ (blocks : List Block). AreColumns (block_kinds blocks) c.in-Ok.n (held_columns blocks c.loop-at.at c.in-Ok.n)) c.blocks-in-loop-at.ensures c.in-Err-keep_run.ensures.full in
    subst (λ (x : RunFault). KeepsNot g.T.Target.view s c.args.kept a old c.args.cloud.now c.args.out.now x new c.fill.new.self c.keep_run.new.cloud c.keep_run.new.out) (sym c.into-in-Err-keep_run.ensures)
    (stops_put g.T.Target.view s c.args.kept c.args.blocks.now c.args.from c.args.count old c.args.cloud.now c.args.out.now c.loop-at.at c.run_length.result mid c.loop-at.blocks c.loop-at.cloud c.loop-at.out inv.met inv.same inv.low (omega (arith, few, below)) inv.keeps c.in-Ok.n new c.fill.new.self c.in-Ok.ensures.of c.in-Ok.ensures.fills full c.requires.kinds c.in-Err-keep_run.fault c.keep_run.new.cloud c.keep_run.new.out
    (subst (λ (blocks : List Block). let cs = held_columns blocks c.loop-at.at c.in-Ok.n in let ps = passes_here s (c.loop-at.at - c.args.from) cs in LosesRun g.T.Target.view (passing_count ps 0 c.in-Ok.n) (map (passing ps 0) (take c.args.kept cs)) c.loop-at.cloud c.loop-at.out c.in-Err-keep_run.fault c.keep_run.new.cloud c.keep_run.new.out) c.blocks-in-loop-at.ensures c.in-Err-keep_run.ensures.keeps))

pub loop-at-preserved : goal.loop-at-preserved
loop-at-preserved g c =
    let s = sieve_of c.args.every c.args.tests.now in
    let old = g.S.Source.view c.args.pages.now.source in
    let mid = g.S.Source.view c.loop-at.pages.source in
    let new = g.S.Source.view c.fill.new.pages.source in
    let inv = c.loop-at.invariant in
    let few = c.run_length.ensures.few in
    let below = c.loop-at-test.true in
    let low = inv.low in
    let after = c.fill.new.self in
    let fills = c.in-Ok.ensures.fills in
    let within = fills.few in
    let columns = held_columns c.fill.new.self.blocks c.loop-at.at c.in-Ok.n in
    let pass = passes_here s (c.loop-at.at - c.args.from) columns in
    let more = map (passing pass 0) (take c.args.kept columns) in
    let number = passing_count pass 0 c.in-Ok.n in
    let full : AreColumns (block_kinds c.fill.new.self.blocks) c.in-Ok.n columns =
    subst (λ (blocks : List Block). AreColumns (block_kinds blocks) c.in-Ok.n (held_columns blocks c.loop-at.at c.in-Ok.n)) c.blocks-in-loop-at.ensures c.in_default.ensures.full in
    let adds : AddsRecords g.T.Target.view number more c.loop-at.cloud c.loop-at.out c.keep_run.new.cloud c.keep_run.new.out =
    subst (λ (blocks : List Block). let cs = held_columns blocks c.loop-at.at c.in-Ok.n in let ps = passes_here s (c.loop-at.at - c.args.from) cs in AddsRecords g.T.Target.view (passing_count ps 0 c.in-Ok.n) (map (passing ps 0) (take c.args.kept cs)) c.loop-at.cloud c.loop-at.out c.keep_run.new.cloud c.keep_run.new.out) c.blocks-in-loop-at.ensures c.in_default.ensures.keeps in
    record {
      same_size = c.in-Ok.ensures.length ∙ inv.same_size;
      same_header = c.in-Ok.ensures.header ∙ inv.same_header;
      end = refl;
      low = omega (arith, low);
      high = omega (arith, few, below, within);
      same = same_filled g.T.Target.view s c.args.kept c.args.blocks.now c.args.from c.args.count old c.args.cloud.now c.args.out.now c.loop-at.at c.run_length.result mid c.loop-at.blocks c.loop-at.cloud c.loop-at.out inv.met inv.same inv.low (omega (arith, few, below)) inv.keeps c.in-Ok.n new c.fill.new.self c.in-Ok.ensures.of c.in-Ok.ensures.fills;
      met = asks_on g.T.Target.view s c.args.kept c.args.blocks.now c.args.from c.args.count old c.args.cloud.now c.args.out.now c.loop-at.at c.run_length.result mid c.loop-at.blocks c.loop-at.cloud c.loop-at.out inv.met inv.same inv.low (omega (arith, few, below)) inv.keeps new fills.met;
      keeps = keeps_on g.T.Target.view s c.args.kept c.args.blocks.now c.args.from c.args.count old c.args.cloud.now c.args.out.now c.loop-at.at c.run_length.result mid c.loop-at.blocks c.loop-at.cloud c.loop-at.out inv.met inv.same inv.low (omega (arith, few, below)) inv.keeps c.in-Ok.n new c.fill.new.self c.in-Ok.ensures.of c.in-Ok.ensures.fills full c.keep_run.new.cloud c.keep_run.new.out adds;
      standing = still_standing g.T.Target.view number more c.loop-at.cloud c.keep_run.new.cloud c.loop-at.out c.keep_run.new.out adds inv.standing;
      idle = λ same.
          let before = inv.keeps.adds.count in
          let now = adds.count in
          let none : c.keep_run.new.cloud.count ≡ c.loop-at.cloud.count = omega (arith, same, before, now) in
          c.in_default.ensures.idle none ∙ inv.idle (omega (arith, same, before, now));
    }

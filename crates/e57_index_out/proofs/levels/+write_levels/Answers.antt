use Rattle.std.proofs.Common.{◌≡◌, ◌+◌, ◌/◌, ◌<◌, ap, subst, ◌∙◌, arith}
use Rattle.e57_index_out.specs.Levels.{upper_level}
use Rattle.e57_index_out.specs.declared.level.Level.{Level}
use Rattle.e57_index_out.proofs.LevelLaws.{first_lost, last_done}
use Rattle.e57_index_out.proofs.LevelSteps.{upper_fits, levels_done}
use Rattle.e57_index_out.proofs.levels.+write_levels.Goals as goal

pub returns-in-Err : goal.returns-in-Err
returns-in-Err g t c = (
  c.in-Err.ensures.0,
  first_lost g.T.Target.view c.args.chunks.now c.args.level.now c.args.level.now c.args.out.now c.args.out.now c.args.out.now c.requires.level c.in-Err.fault (g.T.Target.view c.write_level.new.out.target) c.in-Err.ensures.1,
)

pub returns-then-level-le-MOST_ENTRIES : goal.returns-then-level-le-MOST_ENTRIES
returns-then-level-le-MOST_ENTRIES g t c =
    last_done g.T.Target.view c.args.chunks.now c.args.level.now c.args.level.now c.args.out.now c.write_level.new.out c.write_level.new.out c.requires.level c.place-place.result c.if-level-le-MOST_ENTRIES.true c.in_default.ensures c.place-place.ensures.place

pub write_levels-requires : goal.write_levels-requires
write_levels-requires g t c κs within =
    let puts = c.in_default.ensures in
    let count = ap (λ (l : Level). l.count) c.above.ensures in
    let less : c.above.result.count < c.args.level.now.count = omega arith in (
      subst (λ n. c.above.result.count < n) c.decreases less,
      (within, (puts.state.unspent, upper_fits g.T.Target.view c.args.chunks.now c.args.level.now c.above.result c.args.out.now c.write_level.new.out c.requires.level c.if-level-le-MOST_ENTRIES.false (c.above.ensures ∙ ap (upper_level c.args.level.now) c.size-begin.ensures.size) puts)),
    )

pub returns : goal.returns
returns g t c =
    levels_done g.T.Target.view c.args.chunks.now c.args.level.now c.above.result c.args.out.now c.write_level.new.out c.write_levels.new.out c.write_levels.result c.requires.level c.if-level-le-MOST_ENTRIES.false
    (c.above.ensures ∙ ap (upper_level c.args.level.now) c.size-begin.ensures.size) c.in_default.ensures c.write_levels.ensures

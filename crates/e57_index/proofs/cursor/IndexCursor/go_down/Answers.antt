use Rattle.std.proofs.Common.{◌≡◌, ◌-◌, suc, Some, arith}
use Rattle.e57_index.specs.Finding.{held_level}
use Rattle.e57_index.proofs.Ways.{down_way, taken}
use Rattle.e57_index.proofs.WaySpans.{down_spans}
use Rattle.e57_index.proofs.cursor.IndexCursor.go_down.Goals as goal

pub returns-clause-chunk : goal.returns-clause-chunk
returns-clause-chunk g c =
    let before = c.args.self.now in
    let x = c.pick_held-bound.result.0 in
    let ends = c.pick_held-bound.result.1 in
    let is = c.level-level.ensures in
    let some = c.requires.higher in
    let higher : held_level before.held ≡ suc (c.level-level.result - 1) = omega (arith, is, some) in
    let way = down_way before (c.level-level.result - 1) c.args.i x ends c.requires.has higher c.pick_held-bound.ensures.picked c.pick_held-bound.ensures.ordered in
    taken c.load.result (g.S.Source.view c.args.pages.now.source) (g.S.Source.view c.load.new.pages.source) before c.load.new.self (Some (c.level-level.result - 1)) x ends c.args.i c.load.ensures.section way c.load.ensures.load

pub returns-clause-spans : goal.returns-clause-spans
returns-clause-spans g c =
    let before = c.args.self.now in
    let x = c.pick_held-bound.result.0 in
    let ends = c.pick_held-bound.result.1 in
    let is = c.level-level.ensures in
    let some = c.requires.higher in
    let higher : held_level before.held ≡ suc (c.level-level.result - 1) = omega (arith, is, some) in
    down_spans c.load.result (g.S.Source.view c.args.pages.now.source) (g.S.Source.view c.load.new.pages.source) before c.load.new.self (c.level-level.result - 1) c.args.i x ends c.requires.has higher c.pick_held-bound.ensures.picked c.pick_held-bound.ensures.ordered c.load.ensures.spans c.load.ensures.load

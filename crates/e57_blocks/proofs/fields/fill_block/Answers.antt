use Rattle.e57_blocks.specs.Fields.{FillsBlock, FillsNoBlock, IsReady, KeepsBlock}
use Rattle.e57_blocks.proofs.Readying.{held_after, keeps_filled, keeps_same, lost_block, ready_filled}
use Rattle.e57_blocks.proofs.fields.fill_block.Goals.{then-not-has+then-is_none+in_ok-fill, else-not-has}
use Rattle.e57_blocks.proofs.fields.fill_block.Goals as goal
use Rattle.e57_base.proofs.Options.{by_error}

pub returns-in_err-fill-clause-fills : goal.returns-in_err-fill-clause-fills
returns-in_err-fill-clause-fills g c =
    let old = g.S.Source.view c.args.pages.now.source in
    let new = g.S.Source.view c.fill.new.pages.source in
    let before = c.args.block.now in
    by_error (λ n. FillsBlock old before c.args.i c.args.want n new c.fill.new.self) (λ lost. FillsNoBlock old before c.args.i c.args.want lost new c.fill.new.self) c.in_err-fill.field-0.0 c.from_residual.result c.from_residual.ensures.1
    (lost_block old new before c.fill.new.self c.args.i c.args.want c.in_err-fill.field-0.0 c.requires.holds c.in_err-fill.ensures.fills)

pub returns-clause-fills : goal.returns-clause-fills
returns-clause-fills g c =
    let old = g.S.Source.view c.args.pages.now.source in
    let new = g.S.Source.view c.if-not-has.pages.source in
    let before = c.args.block.now in
    let after = c.if-not-has.block in
    elim c.if-not-has.branch [
      | then-not-has+then-is_none+in_ok-fill w ↦
          let filled = w.in_ok-fill.ensures.fills in
          let keeps : KeepsBlock old before c.args.i c.args.want new after =
          rw (w.block-is, w.pages-is) (keeps_filled old (g.S.Source.view w.fill.new.pages.source) before w.fill.new.self c.args.i c.args.want c.requires.holds filled) in
          let ready : IsReady c.args.i after = rw w.block-is (ready_filled old (g.S.Source.view w.fill.new.pages.source) before w.fill.new.self c.args.i c.args.want filled) in
          held_after old new before after c.args.i c.args.want c.held_from.result keeps ready c.held_from.ensures
      | else-not-has w ↦
          let keeps : KeepsBlock old before c.args.i c.args.want new after = rw (w.block-is, w.pages-is) (keeps_same old before c.args.i c.args.want c.requires.holds) in
          let ready : IsReady c.args.i after = rw w.block-is c.requires.ready in
          held_after old new before after c.args.i c.args.want c.held_from.result keeps ready c.held_from.ensures
    ]

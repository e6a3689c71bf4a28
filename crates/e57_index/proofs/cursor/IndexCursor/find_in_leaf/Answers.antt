use Rattle.std.proofs.Common.{subst}
use Rattle.e57_layout.specs.declared.section.Section.{Section}
use Rattle.e57_index.specs.Reading.{ReadsTarget, LosesTarget}
use Rattle.e57_index.proofs.Ways.{leaf_found, leaf_lost}
use Rattle.e57_index.proofs.WaySpans.{target_below_of}
use Rattle.e57_index.proofs.cursor.IndexCursor.find_in_leaf.Goals as goal

pub returns-in-Ok-clause-chunk : goal.returns-in-Ok-clause-chunk
returns-in-Ok-clause-chunk g c =
    let old = g.S.Source.view c.args.pages.now.source in
    let new = g.S.Source.view c.read_target.new.pages.source in
    let x = c.pick_held-until.result.0 in
    let read = subst (λ (s : Section). ReadsTarget old s x c.in-Ok.place new) c.section-section.ensures.same c.in-Ok.ensures.target in
    leaf_found old new c.args.self.now c.args.i x c.pick_held-until.result.1 c.in-Ok.place c.requires.has c.requires.leaf c.pick_held-until.ensures.picked c.pick_held-until.ensures.ordered c.pick_held-until.ensures.most read

pub returns-in-Err-clause-chunk : goal.returns-in-Err-clause-chunk
returns-in-Err-clause-chunk g c =
    let old = g.S.Source.view c.args.pages.now.source in
    let new = g.S.Source.view c.read_target.new.pages.source in
    let x = c.pick_held-until.result.0 in
    let lost = subst (λ (s : Section). LosesTarget old s x c.in-Err.fault new) c.section-section.ensures.same c.in-Err.ensures.target in
    leaf_lost old new c.args.self.now c.args.i x c.pick_held-until.result.1 c.in-Err.fault c.requires.has c.requires.leaf c.pick_held-until.ensures.picked c.pick_held-until.ensures.ordered lost

pub returns-in-Ok-clause-spans : goal.returns-in-Ok-clause-spans
returns-in-Ok-clause-spans g c =
    target_below_of (g.S.Source.view c.args.pages.now.source) (g.S.Source.view c.read_target.new.pages.source) c.args.self.now c.section-section.result c.args.i c.pick_held-until.result.0 c.pick_held-until.result.1 c.section-section.ensures.same c.requires.has c.requires.leaf c.pick_held-until.ensures.picked c.pick_held-until.ensures.ordered c.in-Ok.ensures.spans

pub returns-in-Err-clause-spans : goal.returns-in-Err-clause-spans
returns-in-Err-clause-spans g c =
    target_below_of (g.S.Source.view c.args.pages.now.source) (g.S.Source.view c.read_target.new.pages.source) c.args.self.now c.section-section.result c.args.i c.pick_held-until.result.0 c.pick_held-until.result.1 c.section-section.ensures.same c.requires.has c.requires.leaf c.pick_held-until.ensures.picked c.pick_held-until.ensures.ordered c.in-Err.ensures.spans

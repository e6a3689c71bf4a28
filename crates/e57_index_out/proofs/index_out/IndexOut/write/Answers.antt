use Rattle.std.proofs.Common.{◌≡◌, length, take, ap, sym, ◌∙◌, arith}
use Rattle.std.proofs.lemmas.List.{length-take-le}
use Rattle.e57_index_out.specs.EntryList.{EntryList}
use Rattle.e57_index_out.proofs.LevelSteps.{index_done}
use Rattle.e57_index_out.proofs.index_out.IndexOut.write.Goals as goal

pub returns : goal.returns
returns g c =
    let items = c.self.inside.entries.items in
    let used = c.self.inside.used in
    let view_is = ap (λ (e : EntryList). e.entries) c.self.view_is in
    let size : length (take used items) ≡ used = length-take-le used items c.self.invariant.0 in
    index_done g.T.Target.view (take used c.deref.result.now) c.args.self.now.entries c.lowest.result used c.args.out.now c.write_levels.new.out c.write_levels.result
    (ap (take used) c.deref.ensures.value ∙ view_is) (sym size ∙ ap length view_is) c.lowest.ensures c.write_levels.ensures

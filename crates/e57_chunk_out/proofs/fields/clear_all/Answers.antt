use Rattle.std.proofs.Common.{ap, sym, ◌∙◌}
use Rattle.std.specs.Prelude.{slice_set}
use Rattle.std.proofs.lemmas.List.Edits.{map_over_more}
use Rattle.e57_chunk_out.specs.Waiting.{Waiting, cleared}
use Rattle.e57_chunk_out.proofs.fields.clear_all.Goals as goal

pub loop-k-preserved : goal.loop-k-preserved
loop-k-preserved c =
    ap (λ (w : Waiting). slice_set c.loop-k.fields c.loop-k.k w) c.clear.ensures
    ∙ ap (λ (w : Waiting). slice_set c.loop-k.fields c.loop-k.k (cleared w)) (sym c.index-fields-k.is)
    ∙ map_over_more cleared c.args.fields.now c.loop-k.fields c.loop-k.k c.index-fields-k.result c.loop-k-test.true c.loop-k.invariant c.index-fields-k.is

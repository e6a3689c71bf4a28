use Rattle.std.proofs.Common.{ap, sym, ◌∙◌}
use Rattle.std.specs.Prelude.{slice_set}
use Rattle.std.proofs.lemmas.List.Edits.{map_over_more}
use Rattle.e57_chunk_out.specs.Waiting.{Waiting, taken}
use Rattle.e57_chunk_out.proofs.Side.{has-text, at-behind}
use Rattle.e57_chunk_out.proofs.fields.take_all.Goals as goal

pub returns-in-Err : goal.returns-in-Err
returns-in-Err c =
    has-text c.args.fields.now c.loop-k.k c.index-fields-k.result c.loop-k-test.true
    (at-behind (taken c.args.from c.args.n) c.args.fields.now c.loop-k.fields c.loop-k.k c.index-fields-k.result c.loop-k-test.true c.loop-k.invariant c.index-fields-k.is) (ap (λ (w : Waiting). w.kind) c.index-fields-k.is ∙ c.in-Err.ensures)

pub loop-k-preserved : goal.loop-k-preserved
loop-k-preserved c =
    ap (λ (w : Waiting). slice_set c.loop-k.fields c.loop-k.k w) c.in_default.ensures
    ∙ ap (λ (w : Waiting). slice_set c.loop-k.fields c.loop-k.k (taken c.args.from c.args.n w)) (sym c.index-fields-k.is)
    ∙ map_over_more (taken c.args.from c.args.n) c.args.fields.now c.loop-k.fields c.loop-k.k c.index-fields-k.result c.loop-k-test.true c.loop-k.invariant c.index-fields-k.is

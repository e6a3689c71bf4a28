use Rattle.std.proofs.Common.{ap, subst, sym, ◌∙◌}
use Rattle.std.specs.Prelude.{slice_set}
use Rattle.std.proofs.lemmas.List.Edits.{map_over_more}
use Rattle.e57_chunk_out.specs.SideBySide.{Has}
use Rattle.e57_chunk_out.specs.Waiting.{Waiting, later_items}
use Rattle.e57_chunk_out.proofs.Side.{read-all, at-behind}
use Rattle.e57_chunk_out.proofs.fields.drop_all.Goals as goal

pub drop_front-requires : goal.drop_front-requires
drop_front-requires c =
    subst (λ (w : Waiting). Has c.args.n w) c.index-fields-k.is
    (read-all (Has c.args.n) c.args.fields.now c.loop-k.k c.index-fields-k.result c.requires c.loop-k-test.true
    (at-behind (later_items c.args.n) c.args.fields.now c.loop-k.fields c.loop-k.k c.index-fields-k.result c.loop-k-test.true c.loop-k.invariant c.index-fields-k.is))

pub loop-k-preserved : goal.loop-k-preserved
loop-k-preserved c =
    ap (λ (w : Waiting). slice_set c.loop-k.fields c.loop-k.k w) c.drop_front.ensures
    ∙ ap (λ (w : Waiting). slice_set c.loop-k.fields c.loop-k.k (later_items c.args.n w)) (sym c.index-fields-k.is)
    ∙ map_over_more (later_items c.args.n) c.args.fields.now c.loop-k.fields c.loop-k.k c.index-fields-k.result c.loop-k-test.true c.loop-k.invariant c.index-fields-k.is

use Rattle.std.proofs.Common.{ℕ, List, take, map, sym, subst, ap, ◌∙◌}
use Rattle.std.specs.Prelude.{MatchResult}
use Rattle.e57_layout.specs.Values.{Value}
use Rattle.e57_layout.specs.Items.{AreColumns}
use Rattle.e57_blocks.specs.Block.{Block}
use Rattle.e57_copy.specs.Adding.{block_kinds, held_columns, AddsRecords, LosesRun}
use Rattle.e57_plain.specs.Kept.{passing}
use Rattle.e57_filter.specs.Keeping.{sieve_of}
use Rattle.e57_filter.specs.Marking.{mark_count, passes_here, picked}
use Rattle.e57_filter.proofs.Passing.{mark-passing}
use Rattle.e57_filter.proofs.Picked.{fit_first, picked_passes}
use Rattle.e57_filter.proofs.keep.keep_marked.Goals as goal

pub pick_run-requires-clause-fit : goal.pick_run-requires-clause-fit
pick_run-requires-clause-fit g c =
    subst (λ (blocks : List Block). AreColumns (block_kinds blocks) c.args.n (held_columns blocks c.args.i c.args.n)) (sym c.split_at.ensures.front) (fit_first c.args.kept c.args.blocks.now c.args.i c.args.n c.are_of_fields.ensures)

pub returns-clause-keeps : goal.returns-clause-keeps
returns-clause-keeps g c =
    let columns = held_columns c.args.blocks.now c.args.i c.args.n in
    let pass = passes_here (sieve_of c.args.every c.args.tests.now) c.args.past columns in
    let flags = c.mark_run.new.flags in
    let number = mark-passing c.args.n pass flags c.mark_run.ensures in
    let same = ap (λ (blocks : List Block). picked flags (held_columns blocks c.args.i c.args.n)) c.split_at.ensures.front
    ∙ picked_passes c.args.kept c.args.blocks.now c.args.i c.args.n pass flags c.are_of_fields.ensures c.mark_run.ensures in
    subst (λ (k : ℕ). MatchResult c.pick_run.result
    (λ x. AddsRecords g.T.Target.view k (map (passing pass 0) (take c.args.kept columns)) c.args.cloud.now c.args.out.now c.pick_run.new.cloud c.pick_run.new.out)
    (λ fault. LosesRun g.T.Target.view k (map (passing pass 0) (take c.args.kept columns)) c.args.cloud.now c.args.out.now fault c.pick_run.new.cloud c.pick_run.new.out)) number
    (subst (λ (more : List (List Value)). MatchResult c.pick_run.result
    (λ x. AddsRecords g.T.Target.view (mark_count flags) more c.args.cloud.now c.args.out.now c.pick_run.new.cloud c.pick_run.new.out)
    (λ fault. LosesRun g.T.Target.view (mark_count flags) more c.args.cloud.now c.args.out.now fault c.pick_run.new.cloud c.pick_run.new.out)) same c.pick_run.ensures.picks)

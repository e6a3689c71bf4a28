use Rattle.e57_trial.specs.Content.{trial_tree}
use Rattle.e57_trial.proofs.Closing.{ended_or_not}
use Rattle.e57_trial.proofs.Trees.{one_item}
use Rattle.e57_trial.proofs.write.write_rest.Goals as goal

pub close_file-requires-clause-places : goal.close_file-requires-clause-places
close_file-requires-clause-places g c = one_item c.args.count c.requires.count c.args.tree.now c.requires.tree

pub returns : goal.returns
returns g c =
    let r = c.requires in
    ended_or_not g.T.Target.view c.args.chunk c.args.start c.args.count r.chunk.some r.count c.args.out.now c.put_section.new.out c.close_file.new.out c.in-Ok.offset c.size-size.ensures.state r.begun c.in-Ok.ensures c.close_file.result (c.close_file.ensures.closed (trial_tree c.args.count) r.tree)

use Rattle.e57_verdict.specs.Things.{things_in}
use Rattle.e57_copy.proofs.Beginning.{written-or-not}
use Rattle.e57_repack.specs.Anew.{copied}
use Rattle.e57_repack.proofs.anew.write_anew.Goals as goal

pub returns-clause-writes : goal.returns-clause-writes
returns-clause-writes g c = λ e d same other.
    rw c.into_target.ensures
    (written-or-not g.T.Target.view (g.T.Target.view c.args.target) c.args.name.now c.in-Ok.out c.in-Ok.ensures.opened
    (copied c.args.chunk d (things_in e) (g.S.Source.view c.args.pages.now.source) (g.S.Source.view c.write_rest-result.new.pages.source))
    (g.T.Target.view c.write_rest-result.new.out.target) c.write_rest-result.result (c.write_rest-result.ensures.ends e d same other))

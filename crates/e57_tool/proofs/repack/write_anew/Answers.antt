use Rattle.e57_repack.specs.Repacking.{repacking}
use Rattle.e57_tool.proofs.Anew.{unopened, rewritten}
use Rattle.e57_tool.proofs.repack.write_anew.Goals as goal

pub returns-in-Err : goal.returns-in-Err
returns-in-Err g c =
    rw c.from.ensures
    (unopened c.opening_agrees.ensures.opening (repacking c.args.chunk c.args.tight) c.args.name.now c.args.made.now (g.S.Source.view c.args.source) (g.S.Source.view c.in-Err.source) (g.T.Target.view c.args.target) c.in-Err.fault c.in-Err.ensures.opened)

pub returns : goal.returns
returns g c =
    let view = g.S.Source.view in
    let before = c.in-Ok.pages in
    let after = c.repack-target.new.pages in
    let asks = c.repack-target.ensures.source in
    rw c.into_source.ensures
    (rewritten g.T.Target.view (repacking c.args.chunk c.args.tight) c.args.name.now c.args.made.now (view c.args.source) (view before.source) (view after.source) before.length before.header asks.pages c.args.target c.repack-target.result.0 c.repack-target.result.1 c.of_writing.result c.in-Ok.ensures.opened asks.asks c.repack-target.ensures.repacks c.of_writing.ensures)

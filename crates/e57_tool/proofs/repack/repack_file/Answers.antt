use Rattle.e57_repack.specs.Repacking.{repacking}
use Rattle.e57_tool.proofs.Anew.{keeps, repack_gives_one}
use Rattle.e57_tool.proofs.repack.repack_file.Goals as goal

pub returns : goal.returns
returns g c =
    let done = c.write_anew in
    let chunk = c.args.chunk in
    let is_tight = c.args.tight in
    keeps g.S.Source.view g.T.Target.view g.O.Sink.view (repacking chunk is_tight) c.args.name.now c.args.made.now c.args.source done.result.0 c.args.target done.result.1 c.args.out.now done.result.2 c.one_verdict.ensures.one c.one_content.ensures.one c.one_content.ensures.accepted (repack_gives_one chunk is_tight) done.ensures

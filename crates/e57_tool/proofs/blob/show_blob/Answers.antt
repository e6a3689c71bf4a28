use Rattle.e57_show.specs.Blob.{blob_streamed}
use Rattle.e57_tool.specs.Blob.{blob_rule}
use Rattle.e57_tool.proofs.Streaming.{keeps}
use Rattle.e57_tool.proofs.blob.show_blob.Goals as goal

pub returns : goal.returns
returns g c =
    let done = c.show_file-source in
    keeps g.S.Source.view g.T.Target.view g.O.Sink.view (blob_streamed c.args.k) (blob_rule c.args.k) c.args.name.now c.args.source done.result.0 c.args.target c.args.out.now done.new.out done.result.1 done.ensures

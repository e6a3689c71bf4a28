use Rattle.std.proofs.Common.{Err, ap, ◌∙◌}
use Rattle.e57_show.specs.Blob.{blob_streamed}
use Rattle.e57_tool.proofs.Showing.{placed}
use Rattle.e57_tool.proofs.Streaming.{unopened, completed, failed}
use Rattle.e57_tool.proofs.BlobAsked.{unopened_pages, blob_asked}
use Rattle.e57_tool.proofs.blob.show_file.Goals as goal

pub returns-in-Err : goal.returns-in-Err
returns-in-Err g c =
    let old = g.S.Source.view c.args.source in
    let new = g.S.Source.view c.in-Err.source in
    rw c.from.ensures
    (record {
      pages = unopened_pages c.args.k c.args.name.now old new c.in-Err.fault c.in-Err.ensures.opened;
      answers = unopened (blob_streamed c.args.k) c.args.name.now old new (g.O.Sink.view c.args.out.now) c.in-Err.fault c.in-Err.ensures.opened;
    })

pub returns-in-Ok-blob : goal.returns-in-Ok-blob
returns-in-Ok-blob g c =
    let view = g.S.Source.view in
    let old = view c.args.source in
    let before = c.in-Ok.pages in
    let after = c.blob.new.pages in
    let out = g.O.Sink.view c.args.out.now in
    let out' = g.O.Sink.view c.blob.new.out in
    let ends = c.in-Ok-blob.ensures in
    let asked = c.blob.ensures.asked in
    rw c.into_source.ensures
    (record {
      pages = blob_asked view c.args.name.now c.args.k old before after out out' c.blob.result c.in-Ok.ensures.opened c.in-Ok.ensures.kept c.blob.ensures.place asked;
      answers = completed (blob_streamed c.args.k) c.args.name.now old (view before.source) (view after.source) before.length before.header _ out out' c.in-Ok.ensures.opened asked.asks ends.ends;
    })

pub returns-in-Err-blob : goal.returns-in-Err-blob
returns-in-Err-blob g c =
    let view = g.S.Source.view in
    let old = view c.args.source in
    let before = c.in-Ok.pages in
    let after = c.blob.new.pages in
    let out = g.O.Sink.view c.args.out.now in
    let out' = g.O.Sink.view c.blob.new.out in
    let ends = c.in-Err-blob.ensures in
    let asked = c.blob.ensures.asked in
    rw c.into_source-in-Err-blob.ensures
    (record {
      pages = blob_asked view c.args.name.now c.args.k old before after out out' c.blob.result c.in-Ok.ensures.opened c.in-Ok.ensures.kept c.blob.ensures.place asked;
      answers = failed (blob_streamed c.args.k) c.args.name.now old (view before.source) (view after.source) before.length before.header _ out out' c.in-Err-blob.fault c.in-Ok.ensures.opened asked.asks
          (λ memory. placed before after out out' c.blob.result (c.in-Err-blob.is ∙ ap (λ f. Err f) memory) c.blob.ensures.place) ends.ends;
    })

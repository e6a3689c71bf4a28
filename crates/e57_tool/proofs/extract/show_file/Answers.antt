use Rattle.std.proofs.Common.{Err, ap, ◌∙◌}
use Rattle.e57_show.specs.Extract.{asked_by, rows_streamed}
use Rattle.e57_tool.proofs.Showing.{placed}
use Rattle.e57_tool.proofs.Streaming.{unopened, completed, failed}
use Rattle.e57_tool.proofs.RowsAsked.{unopened_pages, rows_pages}
use Rattle.e57_tool.proofs.extract.show_file.Goals as goal

pub returns-in-Err : goal.returns-in-Err
returns-in-Err g c =
    let old = g.S.Source.view c.args.source in
    let new = g.S.Source.view c.in-Err.source in
    let asked = asked_by c.args.ask.now in
    rw c.from.ensures
    (record {
      pages = unopened_pages asked c.args.name.now old new c.in-Err.fault c.in-Err.ensures.opened;
      answers = unopened (rows_streamed asked) c.args.name.now old new (g.O.Sink.view c.args.out.now) c.in-Err.fault c.in-Err.ensures.opened;
    })

pub returns-in-Ok-extract : goal.returns-in-Ok-extract
returns-in-Ok-extract g c =
    let view = g.S.Source.view in
    let old = view c.args.source in
    let before = c.in-Ok.pages in
    let after = c.extract.new.pages in
    let out = g.O.Sink.view c.args.out.now in
    let out' = g.O.Sink.view c.extract.new.out in
    let asked = asked_by c.args.ask.now in
    let ends = c.in-Ok-extract.ensures in
    let asks = c.extract.ensures.asked in
    rw c.into_source.ensures
    (record {
      pages = rows_pages view c.args.name.now asked old before after out out' c.extract.result c.in-Ok.ensures.opened c.in-Ok.ensures.kept c.extract.ensures.place asks;
      answers = completed (rows_streamed asked) c.args.name.now old (view before.source) (view after.source) before.length before.header _ out out' c.in-Ok.ensures.opened asks.asks ends.ends;
    })

pub returns-in-Err-extract : goal.returns-in-Err-extract
returns-in-Err-extract g c =
    let view = g.S.Source.view in
    let old = view c.args.source in
    let before = c.in-Ok.pages in
    let after = c.extract.new.pages in
    let out = g.O.Sink.view c.args.out.now in
    let out' = g.O.Sink.view c.extract.new.out in
    let asked = asked_by c.args.ask.now in
    let ends = c.in-Err-extract.ensures in
    let asks = c.extract.ensures.asked in
    rw c.into_source-in-Err-extract.ensures
    (record {
      pages = rows_pages view c.args.name.now asked old before after out out' c.extract.result c.in-Ok.ensures.opened c.in-Ok.ensures.kept c.extract.ensures.place asks;
      answers = failed (rows_streamed asked) c.args.name.now old (view before.source) (view after.source) before.length before.header _ out out' c.in-Err-extract.fault c.in-Ok.ensures.opened asks.asks
          (λ memory. placed before after out out' c.extract.result (c.in-Err-extract.is ∙ ap (λ f. Err f) memory) c.extract.ensures.place) ends.ends;
    })

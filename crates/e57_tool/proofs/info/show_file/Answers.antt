use Rattle.e57_show.specs.Info.{info_shown}
use Rattle.e57_tool.proofs.Showing.{unopened, text_asked, shown_file, failed}
use Rattle.e57_tool.proofs.info.show_file.Goals as goal

pub returns-in-Err : goal.returns-in-Err
returns-in-Err g c = rw c.from.ensures (unopened info_shown c.args.name.now (g.S.Source.view c.args.source) (g.S.Source.view c.in-Err.source) (g.O.Sink.view c.args.out.now) c.in-Err.fault c.in-Err.ensures.opened)

pub returns-in-Ok-info : goal.returns-in-Ok-info
returns-in-Ok-info g c =
    let view = g.S.Source.view in
    let old = view c.args.source in
    let before = c.in-Ok.pages in
    let after = c.info.new.pages in
    let ends = c.in-Ok-info.ensures in
    let pages = text_asked view c.args.name.now old before after (g.O.Sink.view c.args.out.now) (g.O.Sink.view c.info.new.out) c.info.result c.in-Ok.ensures.opened c.in-Ok.ensures.kept c.info.ensures.place c.info.ensures.asked in
    let file = shown_file info_shown c.args.name.now old (view before.source) (view after.source) before.length before.header ends.ends.0 ends.asked.0 c.in-Ok.ensures.opened ends.asked.3 ends.ends.1 in
    rw c.into_source.ensures (record { pages = pages; answers = record { opens = file.opens; file = file.file; sound = file.sound; wrote = (ends.ends.0, file.output, ends.ends.2) } })

pub returns-in-Err-info : goal.returns-in-Err-info
returns-in-Err-info g c =
    let view = g.S.Source.view in
    let old = view c.args.source in
    let before = c.in-Ok.pages in
    let after = c.info.new.pages in
    let ends = c.in-Err-info.ensures in
    let pages = text_asked view c.args.name.now old before after (g.O.Sink.view c.args.out.now) (g.O.Sink.view c.info.new.out) c.info.result c.in-Ok.ensures.opened c.in-Ok.ensures.kept c.info.ensures.place c.info.ensures.asked in
    rw c.into_source-in-Err-info.ensures
    (failed info_shown view c.args.name.now old before after (g.O.Sink.view c.args.out.now) (g.O.Sink.view c.info.new.out) c.info.result c.in-Err-info.fault c.in-Err-info.is c.in-Ok.ensures.opened ends.asked c.info.ensures.place pages ends.ends)

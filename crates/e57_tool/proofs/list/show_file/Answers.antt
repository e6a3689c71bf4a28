use Rattle.e57_show.specs.Listing.{list_shown}
use Rattle.e57_tool.proofs.Showing.{unopened, text_asked, shown_file, failed}
use Rattle.e57_tool.proofs.list.show_file.Goals as goal

pub returns-in-Err : goal.returns-in-Err
returns-in-Err g c = rw c.from.ensures (unopened list_shown c.args.name.now (g.S.Source.view c.args.source) (g.S.Source.view c.in-Err.source) (g.O.Sink.view c.args.out.now) c.in-Err.fault c.in-Err.ensures.opened)

pub returns-in-Ok-list : goal.returns-in-Ok-list
returns-in-Ok-list g c =
    let view = g.S.Source.view in
    let old = view c.args.source in
    let before = c.in-Ok.pages in
    let after = c.list.new.pages in
    let ends = c.in-Ok-list.ensures in
    let pages = text_asked view c.args.name.now old before after (g.O.Sink.view c.args.out.now) (g.O.Sink.view c.list.new.out) c.list.result c.in-Ok.ensures.opened c.in-Ok.ensures.kept c.list.ensures.place c.list.ensures.asked in
    let file = shown_file list_shown c.args.name.now old (view before.source) (view after.source) before.length before.header ends.ends.0 ends.asked.0 c.in-Ok.ensures.opened ends.asked.3 ends.ends.1 in
    rw c.into_source.ensures (record { pages = pages; answers = record { opens = file.opens; file = file.file; sound = file.sound; wrote = (ends.ends.0, file.output, ends.ends.2) } })

pub returns-in-Err-list : goal.returns-in-Err-list
returns-in-Err-list g c =
    let view = g.S.Source.view in
    let old = view c.args.source in
    let before = c.in-Ok.pages in
    let after = c.list.new.pages in
    let ends = c.in-Err-list.ensures in
    let pages = text_asked view c.args.name.now old before after (g.O.Sink.view c.args.out.now) (g.O.Sink.view c.list.new.out) c.list.result c.in-Ok.ensures.opened c.in-Ok.ensures.kept c.list.ensures.place c.list.ensures.asked in
    rw c.into_source-in-Err-list.ensures
    (failed list_shown view c.args.name.now old before after (g.O.Sink.view c.args.out.now) (g.O.Sink.view c.list.new.out) c.list.result c.in-Err-list.fault c.in-Err-list.is c.in-Ok.ensures.opened ends.asked c.list.ensures.place pages ends.ends)

use Rattle.e57_tool.proofs.Scanning.{unopened_pages, stopped_at, scanned_file, text_is}
use Rattle.e57_tool.proofs.pages.scan_file.Goals as goal

pub returns-in-Err : goal.returns-in-Err
returns-in-Err g c = rw c.from.ensures (unopened_pages c.args.name.now (g.S.Source.view c.args.source) (g.S.Source.view c.in-Err.source) (g.O.Sink.view c.args.out.now) c.in-Err.fault c.in-Err.ensures.opened)

pub returns-in-Err-scan : goal.returns-in-Err-scan
returns-in-Err-scan g c =
    let view = g.S.Source.view in
    let opened = c.in-Ok.pages in
    let scanned = c.in-Err-scan.ensures.pages in
    rw (c.into_source.ensures, c.from-in-Err-scan.ensures)
    (stopped_at c.args.name.now (view c.args.source) (view opened.source) (view c.scan.new.self.source) (g.O.Sink.view c.args.out.now) opened.length scanned.0 opened.header c.in-Err-scan.fault c.in-Ok.ensures.opened scanned.1)

pub returns-in-Ok-put : goal.returns-in-Ok-put
returns-in-Ok-put g c =
    let view = g.S.Source.view in
    let opened = c.in-Ok.pages in
    let scanned = c.in-Ok-scan.ensures in
    let text = text_is c.in-Ok-scan.count c.as_bytes.ensures.value c.as_str.ensures.value c.pages_line-line.ensures c.header-header.ensures.header in
    let file = scanned_file c.args.name.now (view c.args.source) (view opened.source) (view c.scan.new.self.source) opened.length c.in-Ok-scan.count opened.header c.as_bytes.result.now c.in-Ok.ensures.opened scanned.pages scanned.count text in
    rw c.into_source-source.ensures (record { pages = file.asked; answers = record { opens = file.opens; file = file.file; sound = file.sound; wrote = (c.as_bytes.result.now, file.output, c.in-Ok-put.ensures.written) } })

pub returns-in-Err-put : goal.returns-in-Err-put
returns-in-Err-put g c =
    let view = g.S.Source.view in
    let opened = c.in-Ok.pages in
    let scanned = c.in-Ok-scan.ensures in
    let text = text_is c.in-Ok-scan.count c.as_bytes.ensures.value c.as_str.ensures.value c.pages_line-line.ensures c.header-header.ensures.header in
    let file = scanned_file c.args.name.now (view c.args.source) (view opened.source) (view c.scan.new.self.source) opened.length c.in-Ok-scan.count opened.header c.as_bytes.result.now c.in-Ok.ensures.opened scanned.pages scanned.count text in
    rw c.into_source-source.ensures (record { pages = file.asked; answers = record { opens = file.opens; file = file.file; sound = file.sound; cause = c.in-Err-put.ensures.cause; wrote = (c.as_bytes.result.now, file.output, c.in-Err-put.ensures.written) } })

use Rattle.std.proofs.Common.{◌*◌, ◌/◌, Err, refl, subst, sym}
use Rattle.e57_base.specs.Fault.{read_as_open}
use Rattle.e57_file.specs.Blob.{LiesIn}
use Rattle.e57_file.proofs.Blobs.{told_size}
use Rattle.e57_tree.specs.Held.{blob_in}
use Rattle.e57_check.proofs.Things.{blob-at, blob-refused, unread-pages}
use Rattle.e57_copy.proofs.Blobs.{blob_lost, blob_put, blob_unopened}
use Rattle.e57_copy.proofs.item.copy_blob_section.Goals as goal

pub returns-in-Err-clause-copies : goal.returns-in-Err-clause-copies
returns-in-Err-clause-copies g c = λ e same.
    let there = c.requires.item e same in
    let old = g.S.Source.view c.args.pages.now.source in
    let new = g.S.Source.view c.open_blob.new.pages.source in
    let count = c.args.pages.now.length / 1024 in
    let lost = blob-at c.args.file.now c.args.k _ e same there c.in-Err.ensures.blob in
    let place = blob-at c.args.file.now c.args.k _ e same there c.in-Err.ensures.place in
    blob_unopened g.T.Target.view e c.args.k count old new c.args.out.now c.in-Err.fault c.from.result c.from.ensures c.size-size.ensures.state
    (blob-refused count old new c.args.pages.now.kept c.open_blob.new.pages.kept e c.args.k c.in-Err.fault (read_as_open c.in-Err.fault) refl
    (unread-pages count g.S.Source.view c.args.pages.now c.open_blob.new.pages (blob_in e c.args.k) (Err c.in-Err.fault) refl place lost.source) lost)

pub copy_blob-requires-clause-lies : goal.copy_blob-requires-clause-lies
copy_blob-requires-clause-lies g c = λ e same blob there. subst (λ n. LiesIn (n / 1024 * 1020) blob) (sym c.in_default.ensures.length) ((c.in_default.ensures.blob e same blob there).lies)

pub returns-in-Ok-clause-copies : goal.returns-in-Ok-clause-copies
returns-in-Ok-clause-copies g c = λ e same.
    let there = c.requires.item e same in
    let opens = blob-at c.args.file.now c.args.k _ e same there c.in_default.ensures.blob in
    let copies = blob-at c.args.file.now c.args.k _ e same there c.in-Ok.ensures.copied in
    blob_put g.T.Target.view e c.args.k (c.args.pages.now.length / 1024) _ (g.S.Source.view c.args.pages.now.source) (g.S.Source.view c.open_blob.new.pages.source) (g.S.Source.view c.copy_blob.new.pages.source) c.args.pages.now.kept c.open_blob.new.pages.kept c.args.out.now c.copy_blob.new.out
    c.size-size.ensures.state c.requires.whole opens c.in-Ok.offset copies

pub returns-in-Err-copy_blob-clause-copies : goal.returns-in-Err-copy_blob-clause-copies
returns-in-Err-copy_blob-clause-copies g c = λ e same.
    let there = c.requires.item e same in
    let old = g.S.Source.view c.args.pages.now.source in
    let opens = blob-at c.args.file.now c.args.k _ e same there c.in_default.ensures.blob in
    let lost = blob-at c.args.file.now c.args.k _ e same there c.in-Err-copy_blob.ensures.copied in
    blob_lost g.T.Target.view e c.args.k (c.args.pages.now.length / 1024) _ old (g.S.Source.view c.open_blob.new.pages.source) (g.S.Source.view c.copy_blob.new.pages.source) c.args.pages.now.kept c.open_blob.new.pages.kept c.args.out.now c.copy_blob.new.out
    c.size-size.ensures.state c.requires.whole opens c.in-Err-copy_blob.fault c.as_run.result (told_size old c.args.pages.now.length (g.met.S.Source.holds_size c.args.pages.now.source) c.logical_len-length.ensures.open_size) c.as_run.ensures c.in-Err-copy_blob.ensures.state lost

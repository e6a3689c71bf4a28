use Rattle.std.proofs.Common.{◌/◌, Err, refl}
use Rattle.e57_tree.specs.Held.{blob_in}
use Rattle.e57_check.proofs.Things.{blob-at, blob-read, blob-refused, unread-pages}
use Rattle.e57_check.proofs.item.judge_item.Goals as goal

pub returns-in-Ok-open_blob-clause-thing : goal.returns-in-Ok-open_blob-clause-thing
returns-in-Ok-open_blob-clause-thing g c = λ e same.
    let fits = rw c.in-Blob.is at (c.requires e same) in
    let opens = blob-at c.args.file.now c.in-Blob.k _ e same fits.0 c.in-Ok-open_blob.ensures.blob in
    rw c.in-Blob.is (blob-read (c.args.pages.now.length / 1024) (g.S.Source.view c.args.pages.now.source) (g.S.Source.view c.open_blob.new.pages.source) c.args.pages.now.kept c.open_blob.new.pages.kept e c.in-Blob.k _ c.args.summary opens)

pub returns-in-Err-open_blob-clause-thing : goal.returns-in-Err-open_blob-clause-thing
returns-in-Err-open_blob-clause-thing g c = λ e same.
    let fits = rw c.in-Blob.is at (c.requires e same) in
    let lost = blob-at c.args.file.now c.in-Blob.k _ e same fits.0 c.in-Err-open_blob.ensures.blob in
    let place = blob-at c.args.file.now c.in-Blob.k _ e same fits.0 c.in-Err-open_blob.ensures.place in
    rw c.in-Blob.is (blob-refused (c.args.pages.now.length / 1024) (g.S.Source.view c.args.pages.now.source) (g.S.Source.view c.open_blob.new.pages.source) c.args.pages.now.kept c.open_blob.new.pages.kept e c.in-Blob.k c.in-Err-open_blob.fault c.from.result c.from.ensures
    (unread-pages (c.args.pages.now.length / 1024) g.S.Source.view c.args.pages.now c.open_blob.new.pages (blob_in e c.in-Blob.k) (Err c.in-Err-open_blob.fault) refl place lost.source) lost)

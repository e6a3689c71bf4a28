use Rattle.std.proofs.Common.{◌∙◌, ◌/◌, sym}
use Rattle.e57_copy.proofs.Blobs.{of_blobs}
use Rattle.e57_copy.proofs.item.copy_section.Goals as goal

pub copy_cloud-requires-clause-alike : goal.copy_cloud-requires-clause-alike
copy_cloud-requires-clause-alike g c = λ e d read written. rw c.in-Cloud.is at (c.requires.alike e d (sym c.tree.ensures ∙ read) written)

pub returns-in-Blob-clause-copies : goal.returns-in-Blob-clause-copies
returns-in-Blob-clause-copies g c = λ e d read written.
    let same = rw c.in-Blob.is at (c.requires.alike e d read written) in
    rw c.in-Blob.is
    (of_blobs g.T.Target.view c.args.chunk e d c.in-Blob.k (c.args.pages.now.length / 1024) (g.S.Source.view c.args.pages.now.source) (g.S.Source.view c.copy_blob_section.new.pages.source) c.args.out.now c.copy_blob_section.new.out c.copy_blob_section.result same (c.copy_blob_section.ensures.copies e read))

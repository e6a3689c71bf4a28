use Rattle.std.proofs.Common.{◌∙◌}
use Rattle.e57_show.proofs.Appending.{blob_appends}
use Rattle.e57_show.proofs.Walking.{path_of_trail}
use Rattle.e57_show.proofs.listing.push_blob_item.Goals as goal

pub returns-clause-lines : goal.returns-clause-lines
returns-clause-lines c = λ e same.
    blob_appends c.push_blob.result e c.args.k c.from.result c.blobs.result.now c.deref.result.now c.args.lines.now.items c.push_blob.new.lines.items c.go_to.new.self.node
    c.from.ensures (c.blobs.ensures e same)
    (c.deref.ensures.value ∙ path_of_trail c.raw-raw.result.now e c.go_to.new.self c.in_ok-go_to.ensures.trail (c.raw-raw.ensures.same ∙ same))
    c.in_ok-go_to.ensures.there c.push_blob.ensures

use Rattle.std.proofs.Common.{◌∙◌}
use Rattle.e57_show.proofs.Appending.{cloud_appends}
use Rattle.e57_show.proofs.Walking.{path_of_trail}
use Rattle.e57_show.proofs.listing.push_cloud_item.Goals as goal

pub returns-clause-lines : goal.returns-clause-lines
returns-clause-lines c = λ e same.
    cloud_appends c.push_fields.result e c.args.k c.from.result c.clouds.result.now c.fields-fields.result.now c.deref.result.now c.args.lines.now.items c.push_cloud.new.lines.items
    c.push_fields.new.lines.items c.go_to.new.self.node c.from.ensures (c.clouds.ensures e same) (c.fields-fields.ensures.fields e same)
    (c.deref.ensures.value ∙ path_of_trail c.raw-raw.result.now e c.go_to.new.self c.in_ok-go_to.ensures.trail (c.raw-raw.ensures.same ∙ same))
    c.in_ok-go_to.ensures.there c.in_ok-push_cloud.ensures c.push_fields.ensures

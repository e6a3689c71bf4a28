use Rattle.std.proofs.Common.{◌/◌}
use Rattle.e57_repack.proofs.Ranging.{fields-there, of-tree}
use Rattle.e57_repack.proofs.ranges.widen_by_cloud_at.Goals as goal

pub widen_by_cloud-requires-clause-there : goal.widen_by_cloud-requires-clause-there
widen_by_cloud-requires-clause-there g c =
    let found = c.raw-raw.ensures.nodes in
    fields-there c.args.tree.now found.tree c.args.k c.fields-fields.result.now _ found.in_preorder (c.raw-raw.ensures.typed found.tree found.in_preorder) (c.fields-fields.ensures.fields found.tree found.in_preorder) c.requires.all

pub returns-clause-widens : goal.returns-clause-widens
returns-clause-widens g c = λ e same.
    of-tree e c.args.k c.cloud_at-cloud.result c.fields-fields.result.now (c.args.pages.now.length / 1024) (g.S.Source.view c.args.pages.now.source) (g.S.Source.view c.widen_by_cloud.new.pages.source) c.args.ranges.now.items c.widen_by_cloud.new.ranges.items c.widen_by_cloud.result
    (c.cloud_at-cloud.ensures e same) (c.fields-fields.ensures.fields e same) c.widen_by_cloud.ensures.widens

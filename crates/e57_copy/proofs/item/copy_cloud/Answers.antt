use Rattle.std.proofs.Common.{◌/◌}
use Rattle.e57_copy.proofs.Trees.{fields_alike, fields_there, of_trees}
use Rattle.e57_copy.proofs.item.copy_cloud.Goals as goal

pub copy_cloud_section-requires-clause-alike : goal.copy_cloud_section-requires-clause-alike
copy_cloud_section-requires-clause-alike g c =
    let e = c.raw-raw.ensures.nodes in
    let d = c.raw-raw-2.ensures.nodes in
    fields_alike e.tree d.tree c.args.k c.fields-fields.result.now c.fields-others.result.now (fields_there e.tree c.args.k c.fields-fields.result.now (c.fields-fields.ensures.fields e.tree e.in_preorder))
    (fields_there d.tree c.args.k c.fields-others.result.now (c.fields-others.ensures.fields d.tree d.in_preorder)) (c.requires.alike e.tree d.tree e.in_preorder d.in_preorder)

pub returns-clause-copies : goal.returns-clause-copies
returns-clause-copies g c = λ e d read written.
    of_trees e d c.args.k c.fields-fields.result.now c.fields-others.result.now (fields_there e c.args.k c.fields-fields.result.now (c.fields-fields.ensures.fields e read))
    (fields_there d c.args.k c.fields-others.result.now (c.fields-others.ensures.fields d written)) (c.requires.alike e d read written)
    c.cloud_at-cloud.result (c.cloud_at-cloud.ensures e read)
    g.T.Target.view c.args.chunk (c.args.pages.now.length / 1024) (g.S.Source.view c.args.pages.now.source) (g.S.Source.view c.copy_cloud_section.new.pages.source) c.args.out.now c.copy_cloud_section.new.out c.copy_cloud_section.result c.copy_cloud_section.ensures.copies

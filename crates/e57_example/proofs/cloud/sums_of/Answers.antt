use Rattle.std.proofs.Common.{◌≤◌, List, slice_index_or, sym, subst}
use Rattle.e57_lib.specs.Tree.Held.{no_cloud}
use Rattle.e57_lib.specs.Tree.items.Cloud.{Cloud}
use Rattle.e57_lib.specs.Section.Opening.{most_records}
use Rattle.e57_lib.proofs.Opening.{few_records}
use Rattle.e57_example.proofs.cloud.sums_of.Goals as goal

pub sum_fields-requires-clause-few : goal.sum_fields-requires-clause-few
sum_fields-requires-clause-few g c =
    let nodes = c.raw-nodes.ensures.nodes in
    subst (λ (clouds : List Cloud). (slice_index_or clouds 0 no_cloud).count ≤ most_records)
    (sym (c.clouds-clouds.ensures nodes.tree nodes.in_preorder))
    (few_records nodes.tree 0 (c.raw-nodes.ensures.typed nodes.tree nodes.in_preorder))

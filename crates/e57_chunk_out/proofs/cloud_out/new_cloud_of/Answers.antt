use Rattle.e57_chunk_out.proofs.Opening.{starts, is_new}
use Rattle.e57_chunk_out.proofs.cloud_out.new_cloud_of.Goals as goal

pub invariant_of-result : goal.invariant_of-result
invariant_of-result c =
    starts c.args.fields.items c.args.chunk_len c.args.at_most c.most_under_way.result c.div_ceil.result c.in_ok-index.index c.requires.some c.requires.few c.requires.fields c.requires.chunk c.requires.most c.most_under_way.ensures c.div_ceil.ensures c.in_ok-index.ensures

pub returns : goal.returns
returns c =
    is_new c.args.fields.items c.args.chunk_len c.args.at_most c.most_under_way.result c.div_ceil.result c.in_ok-index.index c.requires.fields c.in_ok-index.ensures

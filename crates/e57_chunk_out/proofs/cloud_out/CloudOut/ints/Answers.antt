use Rattle.std.proofs.Common.{map}
use Rattle.e57_layout.specs.Values.{Value}
use Rattle.e57_chunk_out.proofs.Added.{stays_cloud, has_items}
use Rattle.e57_chunk_out.proofs.cloud_out.CloudOut.ints.Goals as goal

pub invariant_of-self : goal.invariant_of-self
invariant_of-self c =
    stays_cloud c.self.inside.fields.items c.self.inside.chunks c.self.inside.count c.self.inside.section c.self.inside.is_spent c.args.f c.args.self.now c.self.view_is c.requires.unspent c.requires.field
    c.index_mut.result.now c.push_ints.new.self (map Value.whole c.args.values.now) c.index_mut.ensures.value c.push_ints.ensures
    c.index.result.now c.index.ensures c.len-len.ensures.state c.self.invariant

pub returns-clause-items : goal.returns-clause-items
returns-clause-items c =
    has_items c.self.inside.fields.items c.self.inside.chunks c.self.inside.count c.self.inside.section c.self.inside.is_spent c.args.f c.args.self.now c.self.view_is c.requires.unspent c.requires.field
    c.index_mut.result.now c.push_ints.new.self (map Value.whole c.args.values.now) c.index_mut.ensures.value c.push_ints.ensures

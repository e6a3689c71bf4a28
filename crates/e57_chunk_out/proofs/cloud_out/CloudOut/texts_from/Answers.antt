use Rattle.e57_chunk_out.specs.Texts.{strings_at}
use Rattle.e57_chunk_out.proofs.Added.{stays_cloud, has_items}
use Rattle.e57_chunk_out.proofs.cloud_out.CloudOut.texts_from.Goals as goal

pub invariant_of-self-2 : goal.invariant_of-self-2
invariant_of-self-2 c =
    stays_cloud c.self.inside.fields.items c.self.inside.chunks c.self.inside.count c.self.inside.section c.self.inside.is_spent c.args.f c.args.self.now c.self.view_is c.requires.unspent c.requires.field
    c.index_mut.result.now c.push_texts.new.self (strings_at c.args.bytes.now c.args.begin c.args.ends.now) c.index_mut.ensures.value c.in_default.ensures
    c.index.result.now c.index.ensures c.len-len.ensures.state c.self.invariant

pub returns : goal.returns
returns c =
    has_items c.self.inside.fields.items c.self.inside.chunks c.self.inside.count c.self.inside.section c.self.inside.is_spent c.args.f c.args.self.now c.self.view_is c.requires.unspent c.requires.field
    c.index_mut.result.now c.push_texts.new.self (strings_at c.args.bytes.now c.args.begin c.args.ends.now) c.index_mut.ensures.value c.in_default.ensures

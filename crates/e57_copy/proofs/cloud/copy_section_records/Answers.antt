use Rattle.std.proofs.Common.{◌∙◌, arith}
use Rattle.e57_chunk_out.specs.CloudCalls.{kinds_in}
use Rattle.e57_copy.proofs.Starting.{blocks_alike, blocks_many, blocks_stand, fixed_in, numbers_below}
use Rattle.e57_copy.proofs.cloud.copy_section_records.Goals as goal

pub open-requires-clause-fixed : goal.open-requires-clause-fixed
open-requires-clause-fixed g c = fixed_in c.args.fields.now c.args.section.now.fields c.args.fixed c.requires.as_many c.requires.fixed

pub open-requires-clause-are_fields : goal.open-requires-clause-are_fields
open-requires-clause-are_fields g c = numbers_below c.args.fields.now c.deref.result.now (c.deref.ensures.value ∙ c.in-Ok.ensures)

pub put_records-requires-clause-stand : goal.put_records-requires-clause-stand
put_records-requires-clause-stand g c =
    blocks_stand c.args.section.now c.args.fixed c.args.fields.now c.deref.result.now c.in-Ok-open.blocks (c.deref.ensures.value ∙ c.in-Ok.ensures) c.in-Ok-open.ensures.of c.in-Ok-open.ensures.opens (g.S.Source.view c.args.pages.now.source)

pub put_records-requires-clause-fields : goal.put_records-requires-clause-fields
put_records-requires-clause-fields g c =
    let many = blocks_many c.args.section.now c.args.fixed c.args.fields.now c.deref.result.now c.in-Ok-open.blocks (c.deref.ensures.value ∙ c.in-Ok.ensures) c.in-Ok-open.ensures.of c.in-Ok-open.ensures.opens in
    let some = c.requires.fields.some in
    let few = c.requires.fields.few in
    (omega arith, omega arith)

pub put_records-requires-clause-alike : goal.put_records-requires-clause-alike
put_records-requires-clause-alike g c =
    blocks_alike c.args.section.now c.args.fixed c.args.fields.now c.deref.result.now c.in-Ok-open.blocks (c.deref.ensures.value ∙ c.in-Ok.ensures) c.in-Ok-open.ensures.of c.in-Ok-open.ensures.opens (kinds_in c.args.others.now) c.requires.alike

use Rattle.std.proofs.Common.{◌∙◌}
use Rattle.e57_copy.proofs.Starting.{blocks_many, blocks_stand, fixed_in, numbers_below}
use Rattle.e57_repack.proofs.clouds.widen_by_section.Goals as goal

pub open-requires-clause-fixed : goal.open-requires-clause-fixed
open-requires-clause-fixed g c = fixed_in c.args.fields.now c.args.section.now.fields c.args.fixed c.requires.as_many c.requires.fixed

pub open-requires-clause-are_fields : goal.open-requires-clause-are_fields
open-requires-clause-are_fields g c = numbers_below c.args.fields.now c.deref.result.now (c.deref.ensures.value ∙ c.in-Ok.ensures)

pub widen_by_records-requires-clause-stand : goal.widen_by_records-requires-clause-stand
widen_by_records-requires-clause-stand g c =
    blocks_stand c.args.section.now c.args.fixed c.args.fields.now c.deref.result.now c.in-Ok-open.blocks (c.deref.ensures.value ∙ c.in-Ok.ensures) c.in-Ok-open.ensures.of c.in-Ok-open.ensures.opens (g.S.Source.view c.args.pages.now.source)

pub widen_by_records-requires-clause-as_many : goal.widen_by_records-requires-clause-as_many
widen_by_records-requires-clause-as_many g c =
    blocks_many c.args.section.now c.args.fixed c.args.fields.now c.deref.result.now c.in-Ok-open.blocks (c.deref.ensures.value ∙ c.in-Ok.ensures) c.in-Ok-open.ensures.of c.in-Ok-open.ensures.opens

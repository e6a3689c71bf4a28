use Rattle.std.proofs.Common.{◌∙◌, ◌<◌, subst, sym}
use Rattle.e57_copy.proofs.Starting.{blocks_many, blocks_stand, fixed_in, numbers_below}
use Rattle.e57_trial.proofs.sum.sum_section.Goals as goal

pub open-requires-clause-fixed : goal.open-requires-clause-fixed
open-requires-clause-fixed g c = fixed_in c.args.fields.now c.args.section.now.fields c.args.fixed c.requires.as_many c.requires.fixed

pub open-requires-clause-are_fields : goal.open-requires-clause-are_fields
open-requires-clause-are_fields g c = numbers_below c.args.fields.now c.deref.result.now (c.deref.ensures.value ∙ c.in-Ok.ensures)

pub sum_records-requires-clause-stand : goal.sum_records-requires-clause-stand
sum_records-requires-clause-stand g c =
    blocks_stand c.args.section.now c.args.fixed c.args.fields.now c.deref.result.now c.in-Ok-open.blocks (c.deref.ensures.value ∙ c.in-Ok.ensures) c.in-Ok-open.ensures.of c.in-Ok-open.ensures.opens (g.S.Source.view c.args.pages.now.source)

pub sum_records-requires-clause-some : goal.sum_records-requires-clause-some
sum_records-requires-clause-some g c =
    let many = blocks_many c.args.section.now c.args.fixed c.args.fields.now c.deref.result.now c.in-Ok-open.blocks (c.deref.ensures.value ∙ c.in-Ok.ensures) c.in-Ok-open.ensures.of c.in-Ok-open.ensures.opens in
    subst (λ n. 0 < n) (sym many) c.requires.fields.some

use Rattle.std.proofs.Common.{◌∙◌}
use Rattle.e57_trial.proofs.Trees.{text_read, text_short, text_unrefused}
use Rattle.e57_trial.proofs.tree.raw_tree.Goals as goal

pub read_elements-requires : goal.read_elements-requires
read_elements-requires c = text_short c.deref.result.now c.args.count c.requires (c.deref.ensures.value ∙ c.in_ok-text.ensures) c.spelling_spells.ensures

pub returns-in-Ok : goal.returns-in-Ok
returns-in-Ok c =
    text_read c.deref.result.now c.args.count c.requires (c.deref.ensures.value ∙ c.in_ok-text.ensures) c.spelling_spells.ensures c.one_answer.ensures.tree c.in-Ok.raw c.in-Ok.ensures.found

pub unreachable-requires : goal.unreachable-requires
unreachable-requires c =
    text_unrefused c.deref.result.now c.args.count c.requires (c.deref.ensures.value ∙ c.in_ok-text.ensures) c.spelling_spells.ensures c.one_answer.ensures.either c.in-Err.fault c.in-Refused.field-0 c.in-Refused.is c.in-Err.ensures.fault

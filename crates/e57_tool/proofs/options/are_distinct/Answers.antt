use Rattle.std.proofs.Common.{rules, ◌∙◌, sym}
use Rattle.e57_tool.proofs.Names.{last_name, next_name, repeated_name}
use Rattle.e57_tool.proofs.options.are_distinct.Goals as goal

pub returns-then-not-is_new : goal.returns-then-not-is_new
returns-then-not-is_new c = sym (c.names.invariant.1 ∙ repeated_name c.names.left.now c.in-Some.name c.in-Some.others c.in-Some.ensures.cases (sym c.is_new.ensures ∙ c.if-not-is_new.true))

pub names-preserved : goal.names-preserved
names-preserved c = (search rules, c.names.invariant.1 ∙ next_name c.names.left.now c.in-Some.name c.in-Some.others c.in-Some.ensures.cases (sym c.is_new.ensures ∙ c.if-not-is_new.false))

pub returns : goal.returns
returns c = last_name c.names.left.now c.is_empty.result c.in_default.ensures.cases c.is_empty.ensures ∙ sym c.names.invariant.1

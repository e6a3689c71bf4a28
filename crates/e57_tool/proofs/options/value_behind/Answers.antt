use Rattle.e57_tool.proofs.Names.{value_is}
use Rattle.e57_tool.proofs.options.value_behind.Goals as goal

pub returns : goal.returns
returns c = value_is c.args.front.now c.args.word.now _ c.strip_prefix.ensures.cases

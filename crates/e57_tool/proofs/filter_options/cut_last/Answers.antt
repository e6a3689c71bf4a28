use Rattle.e57_tool.proofs.Cutting.{cut_once}
use Rattle.e57_tool.proofs.filter_options.cut_last.Goals as goal

pub returns : goal.returns
returns c = cut_once c.args.text.now _ c.rsplit_once.ensures.cases

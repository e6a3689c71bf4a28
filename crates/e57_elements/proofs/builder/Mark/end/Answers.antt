use Rattle.std.proofs.Common.{arith}
use Rattle.e57_elements.proofs.Builds.{end_node}
use Rattle.e57_elements.proofs.builder.Mark.end.Goals as goal

pub returns : goal.returns
returns c before node below parts at_place =
    end_node c.args.nodes.now.items before below node c.index_mut-node.result.now c.args.self.place c.len.result c.args.self.text c.beside-text.result
    parts at_place (omega arith) c.index_mut-node.ensures.value c.beside-text.ensures

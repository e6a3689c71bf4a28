use Rattle.std.proofs.Common.{List, subst}
use Rattle.e57_elements.specs.Lawful.{AreNodes}
use Rattle.e57_elements.specs.declared.tree.RawNode.{RawNode}
use Rattle.e57_elements.proofs.Nodes.{nodes_some}
use Rattle.e57_elements.proofs.tree.RawTree.len.Goals as goal

pub returns-clause-some : goal.returns-clause-some
returns-clause-some c = nodes_some c.args.self.now (subst (λ (nodes : List RawNode). AreNodes nodes) c.self.view_is c.self.invariant)

use Rattle.std.proofs.Common.{◌<◌, length, sym, ap, subst, ◌∙◌}
use Rattle.e57_elements.proofs.Makes.{so_far, finished_nodes}
use Rattle.e57_elements.specs.Making.{TreeSoFar}
use Rattle.e57_elements.proofs.tree_out.TreeOut.finish.Goals as goal

pub new-requires : goal.new-requires
new-requires c =
    finished_nodes (so_far c.self.inside.nodes.items c.self.inside.begun.items) c.self.invariant
    (subst (λ (t : TreeSoFar). 0 < length t.nodes) (sym c.self.view_is) c.requires.some)
    (ap (λ (t : TreeSoFar). t.begun) c.self.view_is ∙ c.requires.ended)

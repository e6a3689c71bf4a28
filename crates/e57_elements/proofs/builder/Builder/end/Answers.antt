use Rattle.std.proofs.Common.{eqb, refl, ap, ◌∙◌, arith}
use Rattle.e57_elements.proofs.Builds.{end_within, end_takes, same_names}
use Rattle.e57_elements.proofs.builder.Builder.end.Goals as goal

pub index-requires : goal.index-requires
index-requires c = let h = end_within c.requires.state c.args.self.now c.pop.new.self.items c.in-Some.mark c.requires.keeps c.in-Some.ensures.items in omega arith

pub end-requires-clause-within : goal.end-requires-clause-within
end-requires-clause-within c = end_within c.requires.state c.args.self.now c.pop.new.self.items c.in-Some.mark c.requires.keeps c.in-Some.ensures.items

pub returns : goal.returns
returns c s h =
    end_takes s c.args.self.now (record { nodes = c.end.new.nodes; marks = c.pop.new.self; done = c.is_empty-self.result }) c.pop.new.self.items c.in-Some.mark c.index.result.now c.args.name.now h c.in-Some.ensures.items
    c.index.ensures (same_names c.ne.result c.as_slice.result.now c.as_slice-2.result.now c.index.result.now.name c.args.name.now c.ne.ensures c.if-ne.false c.as_slice.ensures c.as_slice-2.ensures)
    c.end.ensures refl (c.is_empty-self.ensures ∙ ap (λ n. eqb n 0) (omega arith))

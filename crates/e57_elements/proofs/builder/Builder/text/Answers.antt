use Rattle.std.proofs.Common.{ℕ, ◌-◌, List, ◌++◌, ap, refl, ◌∙◌, arith}
use Rattle.std.specs.Vec.{with_item}
use Rattle.e57_elements.proofs.Builds.{text_takes}
use Rattle.e57_elements.proofs.builder.Builder.text.Goals as goal

pub returns : goal.returns
returns c s h =
    text_takes s c.args.self.now (record { nodes = c.args.self.now.nodes; marks = with_item c.args.self.now.marks (c.args.self.now.marks.len - 1) (record { place = c.in-Some.mark.now.place; text = c.push.new.self }); done = c.args.self.now.done }) c.args.self.now.marks.len c.in-Some.mark.now c.args.text c.push.new.self h (omega arith) (c.in-Some.ensures.variant.0 refl) c.in-Some.ensures.item.1 c.in_ok-push.ensures refl refl refl

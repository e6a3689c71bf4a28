use Rattle.std.proofs.Common.{sym, ◌∙◌}
use Rattle.e57_filter.proofs.Marks.{items_long}
use Rattle.e57_filter.proofs.mark.mark_test.Goals as goal

pub mark_items-requires : goal.mark_items-requires
mark_items-requires c = record { long = c.requires.long ∙ sym (items_long c.args.block.now c.args.i c.args.n c.in-Ints.items.now c.in-Ints.ensures.values) }

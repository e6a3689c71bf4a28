use Rattle.std.proofs.Common.{◌∙◌, sym}
use Rattle.e57_filter.proofs.Ended.{alike-trees}
use Rattle.e57_filter.proofs.items.put_item.Goals as goal

pub copy_item-requires-clause-alike : goal.copy_item-requires-clause-alike
copy_item-requires-clause-alike g c = λ e d same other. alike-trees c.args.file.now e d c.args.item same (sym c.tree-2.ensures ∙ other)

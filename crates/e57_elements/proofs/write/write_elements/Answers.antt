use Rattle.std.proofs.Common.{◌≡◌, subst, sym, rules}
use Rattle.e57_elements.specs.Spells.{Spells}
use Rattle.e57_elements.proofs.Elements.{heading, tree_written}
use Rattle.e57_elements.proofs.Spelled.{spelling_spells}
use Rattle.e57_elements.proofs.write.write_elements.Goals as goal

pub returns-clause-spelling : goal.returns-clause-spelling
returns-clause-spelling c e is =
    let begun : c.extend_from_slice.new.self.items ≡ heading = search rules in
    tree_written c.args.tree.now e c.extend_from_slice.new.self.items c.write_element.new.out.items is begun c.in_ok-write_element.ensures

pub returns-clause-spells : goal.returns-clause-spells
returns-clause-spells c e is is_lawful =
    let begun : c.extend_from_slice.new.self.items ≡ heading = search rules in
    subst (λ t. Spells t e) (sym (tree_written c.args.tree.now e c.extend_from_slice.new.self.items c.write_element.new.out.items is begun c.in_ok-write_element.ensures)) (spelling_spells e is_lawful)

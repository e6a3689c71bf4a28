use Rattle.std.proofs.Common.{◌≡◌, sym, subst}
use Rattle.e57_layout.specs.Values.{words, strings}
use Rattle.e57_column.specs.declared.state.State.{State}
use Rattle.e57_column.specs.Column.{kind_of}
use Rattle.e57_column.proofs.ItemKinds.{words32-items}
use Rattle.e57_column.proofs.column.Column.bits32.Goals as goal

pub read_bits32-requires-clause-kind : goal.read_bits32-requires-clause-kind
read_bits32-requires-clause-kind g c = words32-items c.self.inside.state.items (subst (λ (s : State). kind_of s.items ≡ words 32) (sym c.self.view_is) c.requires.kind)

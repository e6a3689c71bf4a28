use Rattle.std.proofs.Common.{◌≡◌, sym, subst}
use Rattle.e57_layout.specs.Values.{words, strings}
use Rattle.e57_column.specs.declared.state.State.{State}
use Rattle.e57_column.specs.Column.{kind_of}
use Rattle.e57_column.proofs.ItemKinds.{words64-items}
use Rattle.e57_column.proofs.column.Column.bits64.Goals as goal

pub read_bits64-requires-clause-kind : goal.read_bits64-requires-clause-kind
read_bits64-requires-clause-kind g c = words64-items c.self.inside.state.items (subst (λ (s : State). kind_of s.items ≡ words 64) (sym c.self.view_is) c.requires.kind)

use Rattle.std.proofs.Common.{◌≡◌, sym, subst}
use Rattle.e57_layout.specs.Values.{words, strings}
use Rattle.e57_column.specs.declared.state.State.{State}
use Rattle.e57_column.specs.Column.{kind_of}
use Rattle.e57_column.proofs.ItemKinds.{strings-items}
use Rattle.e57_column.proofs.column.Column.texts.Goals as goal

pub read_texts-requires-clause-kind : goal.read_texts-requires-clause-kind
read_texts-requires-clause-kind g c = strings-items c.self.inside.state.items (subst (λ (s : State). kind_of s.items ≡ strings) (sym c.self.view_is) c.requires.kind)

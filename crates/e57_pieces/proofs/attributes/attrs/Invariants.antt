use Rattle.std.proofs.Common.{◌≡◌, ◌-◌, length}
use Rattle.e57_pieces.specs.Reading.{attrs_at}
use Rattle.e57_pieces.proofs.Loops.{with_attrs}
use Rattle.e57_pieces.proofs.attributes.attrs.Given as goal

abbrev pub invariant-loop : goal.invariant-loop
invariant-loop l = with_attrs l.attrs (attrs_at (length l.text - l.counter) l.rest) ≡ attrs_at (length l.text) l.text

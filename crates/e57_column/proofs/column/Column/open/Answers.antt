use Rattle.std.proofs.Common.{refl}
use Rattle.e57_column.proofs.column.Column.open.Goals as goal

pub returns : goal.returns
returns c = record {
  stream = refl;
  kind = c.items_of.ensures.kind;
  is_at = refl;
  stands = λ file. record { finder = c.in_ok-finder.ensures.stands file; chunk = λ no. absurd cc };
}

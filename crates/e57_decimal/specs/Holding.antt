-- What a line keeps beside its scale and offset.
use Rattle.std.specs.Prelude.{◌≡◌, ◌+◌, ◌*◌, ◌≤◌, unsigned_abs}
use Rattle.e57_decimal.specs.declared.scaling.Linear.TheInside.{Inside}
use Rattle.e57_decimal.specs.Scaling.{Line, common_up, whole_at, reach}
use Rattle.e57_decimal.specs.Fractions.{IsDecimal, limit, shift_limit}

abbrev pub line_of : Inside → Line
line_of l = record { scale = l.scale; offset = l.offset; low = l.min; high = l.max }

-- both whole numbers at the common shift, by which no number within the limits is too large
pub record IsLinear (l : Inside) : Type 0 where
  pub scale_kept : IsDecimal l.scale
  pub offset_kept : IsDecimal l.offset
  pub common : l.up ≡ common_up l.scale l.offset
  pub high : l.up ≤ 2 * shift_limit
  pub factor : l.factor ≡ whole_at l.up l.scale
  pub summand : l.summand ≡ whole_at l.up l.offset
  pub within : reach l.min l.max * unsigned_abs l.factor + unsigned_abs l.summand ≤ limit

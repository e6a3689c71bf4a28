use Rattle.std.proofs.Common.{refl, arith}
use Rattle.e57_layout.specs.Widths.{bit_length, width}
use Rattle.e57_column.proofs.tests.whole_field.Goals as goal

pub returns-then-width-eq3-clause-valid : goal.returns-then-width-eq3-clause-valid
unfolding width bit_length
returns-then-width-eq3-clause-valid c = record { limits = omega arith; width = refl }

pub returns-then-width-eq1-clause-valid : goal.returns-then-width-eq1-clause-valid
unfolding width bit_length
returns-then-width-eq1-clause-valid c = record { limits = omega arith; width = refl }

pub returns-clause-valid : goal.returns-clause-valid
unfolding width bit_length
returns-clause-valid c = record { limits = omega arith; width = refl }

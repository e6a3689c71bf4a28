use Rattle.std.proofs.Common.{◌∙◌, sym, refl, arith}
use Rattle.e57_pieces.proofs.Loops.{numeral_more, numeral_done}
use Rattle.e57_import.proofs.Numerals.{numeral_fits, numeral_small}
use Rattle.e57_import.proofs.cells.numeral.Goals as goal

pub overflow_mul-number : goal.overflow_mul-number
overflow_mul-number c =
    let fits = numeral_fits c.args.base c.loop-b.number 0 c.loop-b.b-index c.requires.base (omega arith) (omega arith) c.loop-b.invariant.small in
    omega (arith, fits.1)

pub overflow_add-number : goal.overflow_add-number
overflow_add-number c =
    let fits = numeral_fits c.args.base c.loop-b.number c.digit_value.result c.loop-b.b-index c.requires.base c.digit_value.ensures.small (omega arith) c.loop-b.invariant.small in
    omega (arith, fits.1)

pub loop-b-preserved : goal.loop-b-preserved
loop-b-preserved c =
    let fits = numeral_fits c.args.base c.loop-b.number c.digit_value.result c.loop-b.b-index c.requires.base c.digit_value.ensures.small (omega arith) c.loop-b.invariant.small in
    record {
      value = rw c.digit_value.ensures.value (sym (numeral_more c.args.base c.loop-b.number c.args.digits.now c.loop-b.b-index _ c.loop-b-test.true refl) ∙ c.loop-b.invariant.value);
      small = fits.0;
    }

pub returns-clause-value : goal.returns-clause-value
returns-clause-value c = sym (numeral_done c.args.base c.loop-b.number c.args.digits.now c.loop-b.b-index c.loop-b-test.false) ∙ c.loop-b.invariant.value

pub returns-clause-small : goal.returns-clause-small
returns-clause-small c = numeral_small c.loop-b.number c.loop-b.b-index (omega arith) c.loop-b.invariant.small

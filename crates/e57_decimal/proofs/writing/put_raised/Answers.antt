use Rattle.std.proofs.Common.{arith}
use Rattle.e57_decimal.proofs.Magnitudes.{raised_none, raised_zeros}
use Rattle.e57_decimal.proofs.writing.put_raised.Goals as goal

pub returns-then-magnitude-ne0 : goal.returns-then-magnitude-ne0
returns-then-magnitude-ne0 c =
    raised_zeros c.args.text.now.bytes c.put_digits.new.text.bytes c.put_zeros.new.text.bytes c.args.magnitude c.args.zeros c.ranges.magnitude.fits c.requires.few c.if-magnitude-ne0.true c.put_digits.ensures.put c.put_zeros.ensures

pub returns-else-magnitude-ne0 : goal.returns-else-magnitude-ne0
returns-else-magnitude-ne0 c = raised_none c.args.text.now.bytes c.put_digits.new.text.bytes c.args.magnitude c.args.zeros (omega arith) c.put_digits.ensures.put

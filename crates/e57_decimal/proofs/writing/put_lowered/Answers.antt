use Rattle.std.proofs.Common.{ℕ, ◌^◌, ◌<◌, sym, subst, arith}
use Rattle.e57_decimal.proofs.Places.{rest_below}
use Rattle.e57_decimal.proofs.Magnitudes.{lowered_whole, lowered_parts}
use Rattle.e57_decimal.proofs.writing.put_lowered.Goals as goal

pub put_places-requires-clause-below : goal.put_places-requires-clause-below
put_places-requires-clause-below c = let P : ℕ → Type 0 = λ n. n < 10 ^ c.args.places in subst P (sym c.split_whole-whole.ensures.rest) (rest_below c.args.places c.args.magnitude)

pub returns-then-rest-ne0 : goal.returns-then-rest-ne0
returns-then-rest-ne0 c =
    lowered_parts c.args.text.now.bytes c.put_digits.new.text.bytes c.push_str.new.self.bytes c.put_places.new.text.bytes c.args.magnitude c.args.places c.split_whole-whole.result.0 c.split_whole-whole.result.1
    c.ranges.magnitude.fits c.split_whole-whole.ensures.whole c.split_whole-whole.ensures.rest c.if-rest-ne0.true c.put_digits.ensures.put c.push_str.ensures.bytes c.put_places.ensures

pub returns-else-rest-ne0 : goal.returns-else-rest-ne0
returns-else-rest-ne0 c =
    lowered_whole c.args.text.now.bytes c.put_digits.new.text.bytes c.args.magnitude c.args.places c.split_whole-whole.result.0 c.split_whole-whole.result.1
    c.ranges.magnitude.fits c.split_whole-whole.ensures.whole c.split_whole-whole.ensures.rest (omega arith) c.put_digits.ensures.put

use Rattle.std.proofs.Common.{◌/◌, ◌%◌, ap, arith}
use Rattle.std.proofs.Math.Nat.{mod-lt}
use Rattle.e57_decimal.proofs.Tens.{pow-pos}
use Rattle.e57_decimal.proofs.Magnitudes.{lowered_whole, lowered_parts}
use Rattle.e57_decimal.proofs.writing.put_short.Goals as goal

pub nonzero_div-whole : goal.nonzero_div-whole
nonzero_div-whole c = let some = pow-pos c.args.places in let power = c.pow-power.ensures in omega arith

pub nonzero_rem-rest : goal.nonzero_rem-rest
nonzero_rem-rest c = let some = pow-pos c.args.places in let power = c.pow-power.ensures in omega arith

pub put_short_places-requires-clause-below : goal.put_short_places-requires-clause-below
put_short_places-requires-clause-below c = let some = pow-pos c.args.places in let power = c.pow-power.ensures in mod-lt c.args.magnitude (omega arith)

pub returns-then-rest-ne0 : goal.returns-then-rest-ne0
returns-then-rest-ne0 c =
    let n = c.args.magnitude in
    let p = c.pow-power.result in
    let fits = c.ranges.magnitude.fits in
    lowered_parts c.args.text.now.bytes c.put_short_digits.new.text.bytes c.push_str.new.self.bytes c.put_short_places.new.text.bytes n c.args.places (n / p) (n % p)
    (omega arith) (ap (λ q. n / q) c.pow-power.ensures) (ap (λ q. n % q) c.pow-power.ensures) c.if-rest-ne0.true c.put_short_digits.ensures.put c.push_str.ensures.bytes c.put_short_places.ensures

pub returns-else-rest-ne0 : goal.returns-else-rest-ne0
returns-else-rest-ne0 c =
    let n = c.args.magnitude in
    let p = c.pow-power.result in
    let fits = c.ranges.magnitude.fits in
    lowered_whole c.args.text.now.bytes c.put_short_digits.new.text.bytes n c.args.places (n / p) (n % p)
    (omega arith) (ap (λ q. n / q) c.pow-power.ensures) (ap (λ q. n % q) c.pow-power.ensures) (omega arith) c.put_short_digits.ensures.put

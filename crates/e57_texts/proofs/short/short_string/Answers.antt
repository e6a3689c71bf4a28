use Rattle.std.proofs.Common.{◌≡◌, ◌<◌, ◌%◌, length, get_or, arith}
use Rattle.e57_texts.proofs.Prefixes.{one_byte}
use Rattle.e57_texts.proofs.short.short_string.Goals as goal

pub returns : goal.returns
returns c =
    let places = c.if-places-lt-SHORT.false in
    let bytes = c.if-bytes.false in
    let odd = c.if-first-eq1.false in
    let long = c.if-length-gt-SHORT.false in
    let some : 0 < length c.args.bytes.now = omega (arith, bytes) in
    let even : get_or c.args.bytes.now 0 0 % 2 ≡ 0 = omega (arith, odd) in (
      omega (arith, places),
      record { states = one_byte c.args.bytes.now some even (c.type_inv.bytes 0).fits; few = omega (arith, long); there = omega (arith, bytes) },
    )

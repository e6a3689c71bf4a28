use Rattle.std.proofs.Common.{◌≡◌, ◌+◌, length, sym, arith}
use Rattle.e57_decimal.specs.Viewing.{parts_of}
use Rattle.e57_decimal.proofs.Texts.{parts_digits, not_read, read_value, too_long_for, read_by}
use Rattle.e57_decimal.proofs.reading.decimal_read.Goals as goal

pub returns-in_err-parts : goal.returns-in_err-parts
returns-in_err-parts c = rw c.from_residual.ensures (λ d. not_read c.args.text.now d (sym c.in_err-parts.ensures))

pub number_of_digits-requires-clause-whole : goal.number_of_digits-requires-clause-whole
number_of_digits-requires-clause-whole c = (parts_digits c.args.text.now (parts_of c.in_ok-parts.parts) (sym c.in_ok-parts.ensures)).whole

pub number_of_digits-requires-clause-places : goal.number_of_digits-requires-clause-places
number_of_digits-requires-clause-places c = (parts_digits c.args.text.now (parts_of c.in_ok-parts.parts) (sym c.in_ok-parts.ensures)).places

pub returns-in_err-number : goal.returns-in_err-number
returns-in_err-number c =
    let text = c.args.text.now in
    let p = parts_of c.in_ok-parts.parts in
    rw c.from_residual-in_err-number.ensures (λ d read. too_long_for p d c.in_err-number.ensures read.kept (read_value text p d (sym c.in_ok-parts.ensures) read))

pub returns : goal.returns
returns c =
    let p = parts_of c.in_ok-parts.parts in
    let number = c.in_ok-number.number in
    let up : c.from.result + c.from-2.result ≡ number.zeros + p.raised = omega (arith, c.from.ensures, c.from-2.ensures) in
    let down : length p.places + c.from-3.result ≡ length p.places + p.lowered = omega (arith, c.from-3.ensures) in
    read_by c.args.text.now p number.magnitude number.zeros _ _ c.decimal_of.result (sym c.in_ok-parts.ensures) c.in_ok-number.ensures.1 up down c.decimal_of.ensures

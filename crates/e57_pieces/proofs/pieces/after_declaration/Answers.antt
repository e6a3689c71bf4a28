use Rattle.std.proofs.Common.{◌≡◌, Some, take}
use Rattle.e57_pieces.specs.Reading.{declaration_at}
use Rattle.e57_pieces.specs.Gives.{Stops}
use Rattle.e57_pieces.proofs.Steps.{declaration_found, declaration_stops, declaration_err}
use Rattle.e57_pieces.proofs.pieces.after_declaration.Goals as goal

pub overflow_sub-clean : goal.overflow_sub-clean
overflow_sub-clean c =
    let e : declaration_at (take c.args.clean c.args.text.now) ≡ Some c.in_ok-rest.rest.now = rw c.split_at.ensures.front at c.in_ok-rest.ensures in
    (declaration_found c.args.text.now c.args.clean c.in_ok-rest.rest.now c.requires e).short

pub returns-in_err-rest : goal.returns-in_err-rest
returns-in_err-rest c =
    let e : Stops c.in_err-rest.field-0.0 (declaration_at (take c.args.clean c.args.text.now)) = rw c.split_at.ensures.front at c.in_err-rest.ensures in
    declaration_err c.from_residual.result c.args.text.now c.in_err-rest.field-0.0 c.from_residual.ensures.1 (declaration_stops c.in_err-rest.field-0.0 c.args.text.now c.args.clean c.requires e)

pub returns : goal.returns
returns c =
    let e : declaration_at (take c.args.clean c.args.text.now) ≡ Some c.in_ok-rest.rest.now = rw c.split_at.ensures.front at c.in_ok-rest.ensures in
    rw c.split_at-2.ensures.back (declaration_found c.args.text.now c.args.clean c.in_ok-rest.rest.now c.requires e).found

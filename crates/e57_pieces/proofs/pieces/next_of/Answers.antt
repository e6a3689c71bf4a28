use Rattle.std.proofs.Common.{◌≡◌, Some, take}
use Rattle.e57_pieces.specs.Reading.{piece_at}
use Rattle.e57_pieces.specs.Gives.{Stops}
use Rattle.e57_pieces.proofs.Steps.{next_found, next_stops, next_err}
use Rattle.e57_pieces.proofs.pieces.next_of.Goals as goal

pub overflow_sub-clean : goal.overflow_sub-clean
overflow_sub-clean c =
    let e : piece_at (take c.args.clean c.args.text.now) ≡ Some (c.in_ok-found.found, c.in_ok-found.rest.now) = rw c.split_at.ensures.front at c.in_ok-found.ensures in
    (next_found c.args.text.now c.args.clean (c.in_ok-found.found, c.in_ok-found.rest.now) c.requires e).short

pub returns-in_err-found : goal.returns-in_err-found
returns-in_err-found c =
    let e : Stops c.in_err-found.field-0.0 (piece_at (take c.args.clean c.args.text.now)) = rw c.split_at.ensures.front at c.in_err-found.ensures in
    next_err c.from_residual.result c.args.text.now c.in_err-found.field-0.0 c.from_residual.ensures.1 (next_stops c.in_err-found.field-0.0 c.args.text.now c.args.clean c.requires e)

pub returns : goal.returns
returns c =
    let e : piece_at (take c.args.clean c.args.text.now) ≡ Some (c.in_ok-found.found, c.in_ok-found.rest.now) = rw c.split_at.ensures.front at c.in_ok-found.ensures in
    rw c.split_at-2.ensures.back (next_found c.args.text.now c.args.clean (c.in_ok-found.found, c.in_ok-found.rest.now) c.requires e).next

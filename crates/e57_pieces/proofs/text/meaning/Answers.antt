use Rattle.std.proofs.Common.{◌≡◌, None, Some, length}
use Rattle.e57_pieces.specs.Words.{is_plain}
use Rattle.e57_pieces.specs.Reading.{after, reference_at, parts_at}
use Rattle.e57_pieces.proofs.Loops.{parts_go_on, parts_end, parts_done}
use Rattle.e57_pieces.proofs.text.meaning.Goals as goal

pub returns-in_default : goal.returns-in_default
returns-in_default c =
    let found : None ≡ reference_at (after (is_plain c.args.quote) c.loop.rest.now) = rw (← c.split_plain.ensures.rest) c.in_default.ensures in
    rw (c.in_ok-extend_from_slice.ensures.items, c.split_plain.ensures.front, c.split_plain.ensures.rest) (parts_end (is_plain c.args.quote) c.loop.meaning.items (length c.args.text.now) c.loop.counter c.loop.rest.now (parts_at (is_plain c.args.quote) (length c.args.text.now) c.args.text.now) c.loop-test.true found c.loop.invariant)

pub loop-preserved : goal.loop-preserved
loop-preserved c =
    let found : Some (c.in-Some.c, c.in-Some.next.now) ≡ reference_at (after (is_plain c.args.quote) c.loop.rest.now) = rw (← c.split_plain.ensures.rest) c.in-Some.ensures in
    rw (c.in_ok-push_character.ensures, c.in_ok-extend_from_slice.ensures.items, c.split_plain.ensures.front) (parts_go_on (is_plain c.args.quote) c.loop.meaning.items (length c.args.text.now) c.loop.counter c.loop.rest.now c.in-Some.c c.in-Some.next.now (parts_at (is_plain c.args.quote) (length c.args.text.now) c.args.text.now) c.loop-test.true found c.loop.invariant)

pub returns : goal.returns
returns c = parts_done (is_plain c.args.quote) c.loop.meaning.items (length c.args.text.now) c.loop.counter c.loop.rest.now (parts_at (is_plain c.args.quote) (length c.args.text.now) c.args.text.now) c.loop-test.false c.loop.invariant

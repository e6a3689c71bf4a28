use Rattle.std.proofs.Common.{length}
use Rattle.e57_pieces.specs.Reading.{attrs_at}
use Rattle.e57_pieces.proofs.Loops.{attrs_go_on, attrs_end, attrs_done}
use Rattle.e57_pieces.proofs.attributes.attrs.Goals as goal

pub returns-in-Err-Absent : goal.returns-in-Err-Absent
returns-in-Err-Absent c = attrs_end c.loop.attrs (length c.args.text.now) c.loop.counter c.loop.rest.now (attrs_at (length c.args.text.now) c.args.text.now) c.loop-test.true (rw c.in-Err-Absent.field-0-is at c.in-Err-Absent.ensures) c.loop.invariant

pub loop-preserved : goal.loop-preserved
loop-preserved c = rw c.in_ok-push-in-Ok.ensures.ok (attrs_go_on c.loop.attrs (length c.args.text.now) c.loop.counter c.loop.rest.now c.in-Ok.next c.in-Ok.after.now (attrs_at (length c.args.text.now) c.args.text.now) c.loop-test.true c.in-Ok.ensures c.loop.invariant)

pub returns : goal.returns
returns c = attrs_done c.loop.attrs (length c.args.text.now) c.loop.counter c.loop.rest.now (attrs_at (length c.args.text.now) c.args.text.now) c.loop-test.false c.loop.invariant

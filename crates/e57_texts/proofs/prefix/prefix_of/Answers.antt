use Rattle.std.proofs.Common.{◌<◌, length, arith, rules}
use Rattle.e57_texts.proofs.Prefixes.{cut, never, one_byte, states, over}
use Rattle.e57_texts.proofs.prefix.prefix_of.Goals as goal

pub returns-then-bytes-eq0 : goal.returns-then-bytes-eq0
returns-then-bytes-eq0 c =
    let even = c.if-bytes-eq0.true in
    let some : 0 < length c.args.bytes.now = search rules in
    one_byte c.args.bytes.now some even (c.type_inv.bytes 0).fits

pub returns-then-length-gt-LIMIT : goal.returns-then-length-gt-LIMIT
returns-then-length-gt-LIMIT c = let far = c.if-length-gt-LIMIT.true in over _ c.args.bytes.now _ c.in-Length.taken c.in-Length.length _ _ c.new-cursor.ensures (omega (arith, far)) c.in-Length.ensures.step

pub returns-else-length-gt-LIMIT : goal.returns-else-length-gt-LIMIT
returns-else-length-gt-LIMIT c = let near = c.if-length-gt-LIMIT.false in states _ c.args.bytes.now _ c.in-Length.taken c.in-Length.length _ _ c.new-cursor.ensures (omega (arith, near)) c.in-Length.ensures.step

pub returns-in-More : goal.returns-in-More
returns-in-More c = cut _ c.args.bytes.now _ c.in-More.taken _ _ c.new-cursor.ensures c.in-More.ensures.step

pub returns-in-Whole : goal.returns-in-Whole
returns-in-Whole c = absurd (never _ c.args.bytes.now _ c.in-Whole.taken c.in-Whole.length _ _ c.new-cursor.ensures c.in-Whole.ensures.step)

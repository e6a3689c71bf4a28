use Rattle.std.proofs.Common.{◌+◌, ◌*◌, ◌/◌, ◌%◌, arith}
use Rattle.e57_lanes.proofs.Fields.{field, same_eight}
use Rattle.e57_lanes.proofs.near.eight_near.Goals as goal

pub returns : goal.returns
returns c =
    let b = c.args.bytes.now in
    let at = c.args.at in
    let p = c.args.phase in
    let w = c.args.width in
    rw c.eight_shifts.ensures
    (same_eight
    (field b at (p % 8) w 64 _ _ c.u64_at.ensures (omega arith) (omega arith) (omega arith))
    (field b (at + (p + w) / 8) ((p + w) % 8) w 64 _ _ c.u64_at-2.ensures (omega arith) (omega arith) (omega arith))
    (field b (at + (p + 2 * w) / 8) ((p + 2 * w) % 8) w 64 _ _ c.u64_at-3.ensures (omega arith) (omega arith) (omega arith))
    (field b (at + (p + 3 * w) / 8) ((p + 3 * w) % 8) w 64 _ _ c.u64_at-4.ensures (omega arith) (omega arith) (omega arith))
    (field b (at + (p + 4 * w) / 8) ((p + 4 * w) % 8) w 64 _ _ c.u64_at-5.ensures (omega arith) (omega arith) (omega arith))
    (field b (at + (p + 5 * w) / 8) ((p + 5 * w) % 8) w 64 _ _ c.u64_at-6.ensures (omega arith) (omega arith) (omega arith))
    (field b (at + (p + 6 * w) / 8) ((p + 6 * w) % 8) w 64 _ _ c.u64_at-7.ensures (omega arith) (omega arith) (omega arith))
    (field b (at + (p + 7 * w) / 8) ((p + 7 * w) % 8) w 64 _ _ c.u64_at-8.ensures (omega arith) (omega arith) (omega arith)))

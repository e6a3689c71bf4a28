use Rattle.std.proofs.Common.{◌/◌, ◌%◌, ◌≤◌, length, take, drop, sym, refl, arith}
use Rattle.std.specs.Int.{int_gap}
use Rattle.std.proofs.lemmas.List.{length-take-le}
use Rattle.e57_lanes.specs.Unpack.{Written}
use Rattle.e57_stream.specs.Standing.{moved_on}
use Rattle.e57_stream.proofs.IntegerSteps.{written_none, written_front, all_written}
use Rattle.e57_stream.proofs.WindowItems.{moved_none}
use Rattle.e57_stream.proofs.integers.take_integers.Goals as goal

pub returns-then-count-eq0 : goal.returns-then-count-eq0
returns-then-count-eq0 c =
    let none = c.if-count-eq0.true in
    let count = c.held_for-count.ensures in
    (omega (arith, count, none), sym (moved_none c.args.range.now.width c.args.chunk.now), written_none _ _ _ _ _ _)

pub returns : goal.returns
unfolding moved_on
returns c =
    let count = c.held_for-count.ensures in
    let room : c.held_for-count.result ≤ length c.args.out.now = omega (arith, count) in
    let written : Written (drop (c.args.chunk.now.bit / 8) c.args.chunk.now.window) (c.args.chunk.now.bit % 8) c.args.range.now.width c.args.range.now.low (int_gap c.args.range.now.low c.args.range.now.high) 0 c.held_for-count.result (take c.held_for-count.result c.args.out.now) c.unpack_held.new.out = all_written _ _ _ _ _ c.held_for-count.result (take c.held_for-count.result c.args.out.now) c.unpack_held.new.out (length-take-le c.held_for-count.result c.args.out.now room) c.in_ok-unpack_held.ensures in
    (count, refl, written_front (drop (c.args.chunk.now.bit / 8) c.args.chunk.now.window) (c.args.chunk.now.bit % 8) c.args.range.now.width c.args.range.now.low (int_gap c.args.range.now.low c.args.range.now.high) c.held_for-count.result c.args.out.now c.unpack_held.new.out room written)

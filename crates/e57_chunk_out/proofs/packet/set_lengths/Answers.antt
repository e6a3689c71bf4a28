use Rattle.std.proofs.Common.{◌≡◌, ℕ, ◌+◌, List, [], length, take, get_or, refl, sym, ap, subst, arith}
use Rattle.std.proofs.lemmas.List.{take_all}
use Rattle.e57_layout.specs.Packets.{total}
use Rattle.e57_layout.specs.Packing.{room_for}
use Rattle.e57_layout.proofs.Laws.Layouts.{data_size_is}
use Rattle.e57_chunk_out.specs.Cutting.{cut, streams_of}
use Rattle.e57_chunk_out.proofs.Cuts.{IsAt, at_first, next_of, lengths-more, total-more, total-take, cut-most, length-cut_streams, length-streams}
use Rattle.e57_chunk_out.proofs.packet.set_lengths.Goals as goal

pub loop-k-init : goal.loop-k-init
loop-k-init c = record {
  here = subst (λ r. IsAt (cut (room_for (length c.args.fields.now)) c.args.skip (streams_of c.args.fields.now)) (streams_of c.args.fields.now) 0 r c.args.skip) (sym c.room_in_packet-room.ensures)
      (at_first (room_for (length c.args.fields.now)) c.args.skip (streams_of c.args.fields.now));
  lengths = refl;
  size = omega arith;
}

pub overflow_add-size-in-loop-k : goal.overflow_add-size-in-loop-k
overflow_add-size-in-loop-k c =
    let whole = cut (room_for (length c.args.fields.now)) c.args.skip (streams_of c.args.fields.now) in
    let next = next_of c.args.fields.now whole c.loop-k.k c.loop-k.room c.loop-k.skip c.index-fields-k.result c.stream-stream.result.now c.part_of-part.result.now c.saturating_sub-skip.result c.loop-k.invariant.here c.loop-k-test.true c.index-fields-k.is c.stream-stream.ensures c.part_of-part.ensures (omega (arith, c.saturating_sub-skip.ensures)) in
    let size : length c.part_of-part.result.now ≡ length (get_or whole c.loop-k.k []) = ap (λ (xs : List ℕ). length xs) next.is in
    let more = total-more whole c.loop-k.k next.there in
    let most = total-take whole (c.loop-k.k + 1) in
    let fits = cut-most (length c.args.fields.now) c.args.skip (streams_of c.args.fields.now) (length-streams c.args.fields.now) c.requires.few in
    let is = data_size_is whole in
    let count = length-cut_streams (room_for (length c.args.fields.now)) c.args.skip (streams_of c.args.fields.now) in
    omega (arith, size, more, most, fits, is, count, c.loop-k.invariant.size, length-streams c.args.fields.now)

pub overflow_cast-lengths : goal.overflow_cast-lengths
overflow_cast-lengths c =
    let whole = cut (room_for (length c.args.fields.now)) c.args.skip (streams_of c.args.fields.now) in
    let next = next_of c.args.fields.now whole c.loop-k.k c.loop-k.room c.loop-k.skip c.index-fields-k.result c.stream-stream.result.now c.part_of-part.result.now c.saturating_sub-skip.result c.loop-k.invariant.here c.loop-k-test.true c.index-fields-k.is c.stream-stream.ensures c.part_of-part.ensures (omega (arith, c.saturating_sub-skip.ensures)) in
    let size : length c.part_of-part.result.now ≡ length (get_or whole c.loop-k.k []) = ap (λ (xs : List ℕ). length xs) next.is in
    let more = total-more whole c.loop-k.k next.there in
    let most = total-take whole (c.loop-k.k + 1) in
    let fits = cut-most (length c.args.fields.now) c.args.skip (streams_of c.args.fields.now) (length-streams c.args.fields.now) c.requires.few in
    let is = data_size_is whole in
    omega (arith, size, more, most, fits, is)

pub loop-k-preserved : goal.loop-k-preserved
loop-k-preserved c =
    let whole = cut (room_for (length c.args.fields.now)) c.args.skip (streams_of c.args.fields.now) in
    let next = next_of c.args.fields.now whole c.loop-k.k c.loop-k.room c.loop-k.skip c.index-fields-k.result c.stream-stream.result.now c.part_of-part.result.now c.saturating_sub-skip.result c.loop-k.invariant.here c.loop-k-test.true c.index-fields-k.is c.stream-stream.ensures c.part_of-part.ensures (omega (arith, c.saturating_sub-skip.ensures)) in
    let size : length c.part_of-part.result.now ≡ length (get_or whole c.loop-k.k []) = ap (λ (xs : List ℕ). length xs) next.is in
    let more = total-more whole c.loop-k.k next.there in
    record {
      here = next.later;
      lengths = lengths-more whole c.loop-k.lengths c.loop-k.k (length c.part_of-part.result.now) next.there (omega (arith, c.loop-k.auto.lengths, c.requires.places, c.loop-k-test.true)) c.loop-k.invariant.lengths size;
      size = omega (arith, size, more, c.loop-k.invariant.size);
    }

pub returns-clause-size : goal.returns-clause-size
returns-clause-size c =
    let whole = cut (room_for (length c.args.fields.now)) c.args.skip (streams_of c.args.fields.now) in
    let count = length-cut_streams (room_for (length c.args.fields.now)) c.args.skip (streams_of c.args.fields.now) in
    let all : take c.loop-k.k whole ≡ whole = take_all c.loop-k.k whole (omega (arith, count, length-streams c.args.fields.now, c.loop-k-test.false)) in
    let sum = ap total all in
    let is = data_size_is whole in
    omega (arith, sum, is, count, length-streams c.args.fields.now, c.loop-k.invariant.size)

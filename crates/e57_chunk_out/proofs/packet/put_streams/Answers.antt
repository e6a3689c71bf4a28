use Rattle.std.proofs.Common.{◌≡◌, ℕ, List, [], ◌++◌, length, take, get_or, sym, ap, subst, ◌∙◌, arith}
use Rattle.std.specs.List.{concat}
use Rattle.e57_layout.specs.Packing.{room_for}
use Rattle.e57_page_out.specs.Sequences.{Puts}
use Rattle.e57_page_out.proofs.Sequences.{puts_both, puts_nothing, loses_part, loses_piece, spent_piece}
use Rattle.e57_chunk_out.specs.Cutting.{cut, streams_of}
use Rattle.e57_chunk_out.proofs.Cuts.{IsAt, at_first, next_of, concat-more, parts-within}
use Rattle.e57_chunk_out.proofs.packet.put_streams.Goals as goal

pub loop-k-init : goal.loop-k-init
loop-k-init g c = record {
  here = subst (λ r. IsAt (cut (room_for (length c.args.fields.now)) c.args.skip (streams_of c.args.fields.now)) (streams_of c.args.fields.now) 0 r c.args.skip) (sym c.room_in_packet-room.ensures)
      (at_first (room_for (length c.args.fields.now)) c.args.skip (streams_of c.args.fields.now));
  put = puts_nothing g.T.Target.view c.args.out.now c.requires.state;
}

pub returns-in-Err : goal.returns-in-Err
returns-in-Err g c =
    let whole = cut (room_for (length c.args.fields.now)) c.args.skip (streams_of c.args.fields.now) in
    let next = next_of c.args.fields.now whole c.loop-k.k c.loop-k.room c.loop-k.skip c.index-fields-k.result c.stream-stream.result.now c.part_of-part.result.now c.saturating_sub-skip.result c.loop-k.invariant.here c.loop-k-test.true c.index-fields-k.is c.stream-stream.ensures c.part_of-part.ensures (omega (arith, c.saturating_sub-skip.ensures)) in
    let size : length c.part_of-part.result.now ≡ length (get_or whole c.loop-k.k []) = ap (λ (xs : List ℕ). length xs) next.is in
    let within = parts-within whole c.loop-k.k next.there in (
      spent_piece g.T.Target.view c.loop-k.out (length c.part_of-part.result.now) c.in-Err.fault c.put.new.self c.in-Err.ensures.put,
      loses_part g.T.Target.view c.args.out.now c.loop-k.out (concat (take c.loop-k.k whole)) (length c.part_of-part.result.now) (length (concat whole)) c.in-Err.fault (g.T.Target.view c.put.new.self.target) c.loop-k.invariant.put (omega (arith, size, within))
          (loses_piece g.T.Target.view c.loop-k.out (length c.part_of-part.result.now) c.in-Err.fault c.put.new.self c.in-Err.ensures.put),
    )

pub loop-k-preserved : goal.loop-k-preserved
loop-k-preserved g c =
    let whole = cut (room_for (length c.args.fields.now)) c.args.skip (streams_of c.args.fields.now) in
    let next = next_of c.args.fields.now whole c.loop-k.k c.loop-k.room c.loop-k.skip c.index-fields-k.result c.stream-stream.result.now c.part_of-part.result.now c.saturating_sub-skip.result c.loop-k.invariant.here c.loop-k-test.true c.index-fields-k.is c.stream-stream.ensures c.part_of-part.ensures (omega (arith, c.saturating_sub-skip.ensures)) in
    record {
      here = next.later;
      put = subst (λ (bytes : List ℕ). Puts g.T.Target.view c.args.out.now bytes c.put.new.self)
          (ap (λ (xs : List ℕ). concat (take c.loop-k.k whole) ++ xs) next.is ∙ sym (concat-more whole c.loop-k.k next.there))
          (puts_both g.T.Target.view c.args.out.now c.loop-k.out c.put.new.self (concat (take c.loop-k.k whole)) c.part_of-part.result.now c.loop-k.invariant.put c.in_default.ensures.put);
    }

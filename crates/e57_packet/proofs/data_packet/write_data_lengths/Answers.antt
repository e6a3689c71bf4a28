use Rattle.std.proofs.Common.{◌≡◌, ◌+◌, ◌*◌, ◌^◌, ◌<◌, ◌∙◌, ◌++◌, ◌∷◌, [], List, ℕ, length, take, refl, sym, ap, arith, append_assoc, get_or, suc}
use Rattle.std.specs.List.{flat_map}
use Rattle.std.proofs.lemmas.List.{take_more, take_all, append-nil}
use Rattle.std.proofs.lemmas.Grind.{flat_map-append}
use Rattle.e57_layout.specs.Bytes.{low_bytes}
use Rattle.e57_layout.specs.Standing.{Stands}
use Rattle.e57_layout.specs.Packets.{stream_lengths, stream_count_at}
use Rattle.e57_layout.proofs.Laws.Numbers.{AreBelow}
use Rattle.e57_layout.proofs.Laws.Standing.{Stands-past_number, Stands-number_first}
use Rattle.e57_layout.proofs.Laws.Layouts.{lengths-read}
use Rattle.e57_packet.proofs.Writing.{put_number, put_all}
use Rattle.e57_packet.proofs.data_packet.write_data_lengths.Goals as goal

pub loop-k-init : goal.loop-k-init
loop-k-init c =
    record {
      long = c.put.auto.out;
      done = put_number c.args.out.now c.put.new.out [] c.to_le_bytes.result 0 2 (length c.args.lengths.now) 2 refl c.to_le_bytes.ensures refl c.put.ensures ∙ sym (append-nil (low_bytes 2 (length c.args.lengths.now)));
    }

-- one length more
bytes_more : (ns : List ℕ) (k : ℕ) → k < length ns → low_bytes 2 (length ns) ++ flat_map (low_bytes 2) (take k ns) ++ low_bytes 2 (get_or ns k 0) ≡ low_bytes 2 (length ns) ++ flat_map (low_bytes 2) (take (k + 1) ns)
bytes_more ns k h =
    let more : take (k + 1) ns ≡ take k ns ++ get_or ns k 0 ∷ [] = take_more ns k 0 h in
    let last : flat_map (low_bytes 2) (get_or ns k 0 ∷ []) ≡ low_bytes 2 (get_or ns k 0) = append-nil (low_bytes 2 (get_or ns k 0)) in
    rw (more, flat_map-append, last, append_assoc) refl

pub loop-k-preserved : goal.loop-k-preserved
loop-k-preserved c =
    let k = c.loop-k.k in
    let ns = c.args.lengths.now in
    record {
      long = c.put-in-loop-k.auto.out ∙ c.loop-k.invariant.long;
      done = put_number c.loop-k.out c.put-in-loop-k.new.out _ c.to_le_bytes-in-loop-k.result (2 + 2 * k) 2 (get_or ns k 0) (2 + 2 * (k + 1)) c.loop-k.invariant.done c.to_le_bytes-in-loop-k.ensures (omega arith) c.put-in-loop-k.ensures ∙ bytes_more ns k c.loop-k-test.true;
    }

pub returns-clause-bytes : goal.returns-clause-bytes
unfolding stream_lengths
returns-clause-bytes c =
    let ns = c.args.lengths.now in
    let past = c.loop-k-test.false in
    let kept = c.loop-k.invariant in
    let at_end : c.loop-k.k ≡ length ns = omega (arith, c.loop-k.auto.k-end, past) in
    let all : take c.loop-k.k ns ≡ ns = take_all c.loop-k.k ns past in
    put_all c.loop-k.out (low_bytes 2 (length ns) ++ flat_map (low_bytes 2) (take c.loop-k.k ns)) (2 + 2 * c.loop-k.k) (rw at_end (kept.long ∙ c.requires.room)) kept.done
    ∙ ap (λ (t : List ℕ). low_bytes 2 (length ns) ++ flat_map (low_bytes 2) t) all

-- numbers of 16 bits
are_below : (ns : List ℕ) → ((i : ℕ) → get_or ns i 0 < 2 ^ 16) → AreBelow 16 ns
are_below [] h = tt
are_below (n ∷ ns) h = (h 0, are_below ns (λ i. h (suc i)))

pub returns-clause-reads : goal.returns-clause-reads
unfolding stream_lengths stream_count_at
returns-clause-reads c b q stands =
    let ns = c.args.lengths.now in
    let here : Stands b (q + 4) (stream_lengths ns) = rw (returns-clause-bytes c) at stands in
    let most = c.requires.most in
    record {
      count = Stands-number_first b (q + 4) 2 (length ns) (8 * q + 32) 16 (flat_map (low_bytes 2) ns) here (omega arith) (omega arith) refl;
      lengths = lengths-read b (q + 6) ns (are_below ns (λ i. (c.type_inv.lengths i).fits)) (moved b q (flat_map (low_bytes 2) ns) (Stands-past_number b (q + 4) 2 (length ns) (flat_map (low_bytes 2) ns) here));
    }
  where
    moved : (b : List ℕ) (q : ℕ) (piece : List ℕ) → Stands b (q + 4 + 2) piece → Stands b (q + 6) piece
    moved b q piece h = let e : q + 4 + 2 ≡ q + 6 = omega arith in rw e at h

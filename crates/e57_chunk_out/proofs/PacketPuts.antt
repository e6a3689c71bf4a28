-- Laws of a packet that is put piece by piece.
use Rattle.std.proofs.Common.{◌≡◌, ℕ, ◌+◌, ◌<◌, Bool, List, ◌++◌, length, sym, ap, subst, ◌∙◌, arith}
use Rattle.std.specs.List.{concat}
use Rattle.std.proofs.lemmas.List.{append_assoc, length-append}
use Rattle.e57_base.specs.Target.{TargetView}
use Rattle.e57_base.specs.declared.fault.PutFault.{PutFault}
use Rattle.e57_layout.specs.Packets.{data_head, data_packet, data_size, lengths, packet_head, padding, stream_lengths}
use Rattle.e57_page_out.specs.Sequences.{Loses, Puts}
use Rattle.e57_page_out.specs.Writing.{Writing, most_bytes}
use Rattle.e57_page_out.proofs.Sequences.{puts_both, loses_part, loses_wider}
use Rattle.e57_chunk_out.specs.Cutting.{heads_of}

packet-parts : (restart : Bool) (whole : List (List ℕ)) → (heads_of restart whole ++ concat whole) ++ padding (data_size whole) ≡ data_packet restart whole
unfolding data_packet
packet-parts restart whole = parts (packet_head (data_head restart whole)) (stream_lengths (lengths whole)) (concat whole) (padding (data_size whole))
  where
    parts : (a b c d : List ℕ) → ((a ++ b) ++ c) ++ d ≡ a ++ (b ++ (c ++ d))
    parts a b c d = append_assoc (a ++ b) c d ∙ append_assoc a b (c ++ d)

module _ {T : Type 0} (view : T → TargetView) (a b : Writing T) (restart : Bool) (whole : List (List ℕ)) where
  packet-size : length (data_packet restart whole) ≡ length (heads_of restart whole) + length (concat whole) + length (padding (data_size whole))
  packet-size =
      ap (λ (bytes : List ℕ). length bytes) (sym (packet-parts restart whole))
      ∙ length-append (heads_of restart whole ++ concat whole) (padding (data_size whole))
      ∙ ap (λ n. n + length (padding (data_size whole))) (length-append (heads_of restart whole) (concat whole))

  pub packet_put : (c d : Writing T) → Puts view a (heads_of restart whole) b → Puts view b (concat whole) c → Puts view c (padding (data_size whole)) d → Puts view a (data_packet restart whole) d
  packet_put c d first second third =
      subst (λ (bytes : List ℕ). Puts view a bytes d) (packet-parts restart whole)
      (puts_both view a c d (heads_of restart whole ++ concat whole) (padding (data_size whole)) (puts_both view a b c (heads_of restart whole) (concat whole) first second) third)

  pub lost_heads : (fault : PutFault) (now : TargetView) → Loses view a (most_bytes < a.size + length (heads_of restart whole)) fault now → Loses view a (most_bytes < a.size + length (data_packet restart whole)) fault now
  lost_heads fault now lost = let size = packet-size in loses_wider view a (most_bytes < a.size + length (heads_of restart whole)) (most_bytes < a.size + length (data_packet restart whole)) fault now (λ past. omega arith) lost

  pub lost_streams : (fault : PutFault) (now : TargetView) → Puts view a (heads_of restart whole) b → Loses view b (most_bytes < b.size + length (concat whole)) fault now → Loses view a (most_bytes < a.size + length (data_packet restart whole)) fault now
  lost_streams fault now first lost = let size = packet-size in loses_part view a b (heads_of restart whole) (length (concat whole)) (length (data_packet restart whole)) fault now first (omega arith) lost

  pub lost_padding : (c : Writing T) (fault : PutFault) (now : TargetView) → Puts view a (heads_of restart whole) b → Puts view b (concat whole) c → Loses view c (most_bytes < c.size + length (padding (data_size whole))) fault now
      → Loses view a (most_bytes < a.size + length (data_packet restart whole)) fault now
  lost_padding c fault now first second lost =
      let size = packet-size in
      loses_part view a c (heads_of restart whole ++ concat whole) (length (padding (data_size whole))) (length (data_packet restart whole)) fault now
      (puts_both view a b c (heads_of restart whole) (concat whole) first second) (omega (arith, length-append (heads_of restart whole) (concat whole))) lost

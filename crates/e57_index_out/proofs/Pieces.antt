-- Laws of pieces that are put one after another: those of an index packet's entries, and of a level's packets.
use Rattle.std.proofs.Common.{◌≡◌, ℕ, ◌+◌, ◌-◌, ◌*◌, ◌/◌, ◌<◌, ◌≤◌, Bool, true, min, List, [], ◌++◌, length, refl, sym, ap, subst, ◌∙◌, arith}
use Rattle.std.specs.List.{flat_map}
use Rattle.std.proofs.lemmas.List.{append_assoc, length-append}
use Rattle.std.proofs.lemmas.List.Folds.{flat_map-map}
use Rattle.std.proofs.lemmas.List.FromFn.{length-map-range_with_len}
use Rattle.e57_base.specs.Target.{TargetView}
use Rattle.e57_base.specs.declared.fault.PutFault.{PutFault}
use Rattle.e57_layout.specs.declared.packet.Entry.{Entry}
use Rattle.e57_layout.specs.IndexPackets.{index_head, index_packet, index_size, entry_bytes}
use Rattle.e57_layout.specs.Packets.{packet_head}
use Rattle.e57_layout.specs.Written.{packet_bytes, packets_bytes, entries_packet, level_spelled, entry_runs}
use Rattle.e57_page_out.specs.Sequences.{Puts, Loses}
use Rattle.e57_page_out.specs.Writing.{Writing, IsBeingWritten, most_bytes}
use Rattle.e57_page_out.proofs.Sequences.{puts_nothing, puts_both, loses_part}
use Rattle.e57_index_out.specs.Levels.{heads, level_entry, level_part, level_entries, packet_entries}
use Rattle.e57_index_out.specs.declared.level.Level.{Level}
use Rattle.e57_index_out.proofs.Made.{made, flat_map-made_more, flat_map-made_within}
use Rattle.e57_index_out.proofs.Runs.{runs-made}

module _ {T X : Type 0} (view : T → TargetView) (h : X → List ℕ) (f : ℕ → X) (first : ℕ) where
  -- none yet
  pub pieces_begun : (out : Writing T) (n : ℕ) → n ≡ 0 → IsBeingWritten view out → Puts view out (flat_map h (made f first n)) out
  pieces_begun out n none state = subst (λ k. Puts view out (flat_map h (made f first k)) out) (sym none) (puts_nothing view out state)

  -- one more
  pub pieces_more : (a b c : Writing T) (n next k : ℕ) (piece : List ℕ) → next ≡ n + 1 → first + n ≡ k → piece ≡ h (f k) → Puts view a (flat_map h (made f first n)) b → Puts view b piece c → Puts view a (flat_map h (made f first next)) c
  pieces_more a b c n next k piece is here same puts more =
      let all : flat_map h (made f first n) ++ piece ≡ flat_map h (made f first next) =
      ap (λ (xs : List ℕ). flat_map h (made f first n) ++ xs) same ∙ sym (flat_map-made_more h f first n k here) ∙ ap (λ i. flat_map h (made f first i)) (sym is) in
      subst (λ xs. Puts view a xs c) all (puts_both view a b c (flat_map h (made f first n)) piece puts more)

  -- one of them failed
  pub piece_lost : (a b : Writing T) (n all k : ℕ) (piece : List ℕ) (fault : PutFault) (now : TargetView) → n < all → first + n ≡ k → piece ≡ h (f k) → Puts view a (flat_map h (made f first n)) b
      → Loses view b (most_bytes < b.size + length piece) fault now → Loses view a (most_bytes < a.size + length (flat_map h (made f first all))) fault now
  piece_lost a b n all k piece fault now below here same puts lost =
      let size : length piece ≡ length (h (f k)) = ap (λ (xs : List ℕ). length xs) same in
      let within = flat_map-made_within h f first all n k here (omega arith) in
      loses_part view a b (flat_map h (made f first n)) (length piece) (length (flat_map h (made f first all))) fault now puts (omega arith) lost

-- a packet is its heads and its entries
pub packet-is : (chunks : List Entry) (level : Level) (j count : ℕ) → count ≡ min 2048 (level.count - 2048 * j) → index_packet level.number (packet_entries chunks level j) ≡ heads level.number count ++ flat_map entry_bytes (level_part chunks level (2048 * j) count)
unfolding index_packet level_part
packet-is chunks level j count is =
    let f = level_entry chunks level in
    let size : length (made f (2048 * j) count) ≡ count = length-map-range_with_len f (2048 * j) count in
    ap (λ n. index_packet level.number (made f (2048 * j) n)) (sym is)
    ∙ ap (λ n. packet_head (record { sort = 0; flags = 0; length = index_size n }) ++ (index_head (record { entries = n; level = level.number }) ++ flat_map entry_bytes (made f (2048 * j) count))) size
    ∙ sym (append_assoc (packet_head (record { sort = 0; flags = 0; length = index_size count })) (index_head (record { entries = count; level = level.number })) (flat_map entry_bytes (made f (2048 * j) count)))

-- the bytes of a level's packets
pub level-bytes : (chunks : List Entry) (level : Level) → packets_bytes (level_spelled level.number (entry_runs (level_entries chunks level))) ≡ flat_map (index_packet level.number) (made (packet_entries chunks level) 0 ((level.count + 2047) / 2048))
unfolding level_spelled packet_bytes level_part
level-bytes chunks level =
    flat_map-map packet_bytes (entries_packet level.number) (entry_runs (level_entries chunks level))
    ∙ ap (flat_map (index_packet level.number)) (runs-made (level_entry chunks level) level.count)

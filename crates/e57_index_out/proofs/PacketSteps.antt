-- What putting a packet of an index does: its heads, and then its entries.
use Rattle.std.proofs.Common.{◌≡◌, ℕ, ◌+◌, ◌-◌, ◌*◌, ◌<◌, ◌≤◌, true, min, List, ◌++◌, length, Result, Ok, Err, MatchResult, sym, ap, subst, ◌∙◌, arith}
use Rattle.std.specs.List.{flat_map}
use Rattle.std.proofs.lemmas.List.{length-append}
use Rattle.e57_base.specs.Target.{TargetView}
use Rattle.e57_base.specs.declared.fault.PutFault.{PutFault}
use Rattle.e57_layout.specs.declared.packet.Entry.{Entry}
use Rattle.e57_layout.specs.IndexPackets.{index_packet, entry_bytes}
use Rattle.e57_layout.proofs.Laws.Layouts.{length-index_packet}
use Rattle.e57_page_out.specs.Sequences.{Puts, Loses}
use Rattle.e57_page_out.specs.Writing.{Writing, most_bytes}
use Rattle.e57_page_out.proofs.Sequences.{puts_both, loses_part, loses_wider}
use Rattle.e57_index_out.specs.Levels.{heads, level_part, packet_entries}
use Rattle.e57_index_out.specs.declared.level.Level.{Level}
use Rattle.e57_index_out.proofs.Pieces.{packet-is}

module _ {T : Type 0} (view : T → TargetView) (chunks : List Entry) (level : Level) (j : ℕ) where
  -- the heads were not put
  pub heads_lost : (a : Writing T) (fault : PutFault) (now : TargetView) → Loses view a (most_bytes < a.size + 16) fault now → Loses view a (most_bytes < a.size + length (index_packet level.number (packet_entries chunks level j))) fault now
  heads_lost a fault now lost =
      let size = length-index_packet level.number (packet_entries chunks level j) in
      loses_wider view a (most_bytes < a.size + 16) (most_bytes < a.size + length (index_packet level.number (packet_entries chunks level j))) fault now (λ past. omega arith) lost

  -- behind the heads the entries were put or not
  pub packet_done : {U : Type 0} (count : ℕ) (a b c : Writing T) (result : Result U PutFault) → count ≡ min 2048 (level.count - 2048 * j) → Puts view a (heads level.number count) b
      → MatchResult result
      (λ _. Puts view b (flat_map entry_bytes (level_part chunks level (2048 * j) count)) c)
      (λ fault. (c.is_spent ≡ true) × Loses view b (most_bytes < b.size + length (flat_map entry_bytes (level_part chunks level (2048 * j) count))) fault (view c.target))
      → MatchResult result
      (λ _. Puts view a (index_packet level.number (packet_entries chunks level j)) c)
      (λ fault. (c.is_spent ≡ true) × Loses view a (most_bytes < a.size + length (index_packet level.number (packet_entries chunks level j))) fault (view c.target))
  packet_done count a b c (Ok x) is puts later =
      subst (λ bytes. Puts view a bytes c) (sym (packet-is chunks level j count is)) (puts_both view a b c (heads level.number count) (flat_map entry_bytes (level_part chunks level (2048 * j) count)) puts later)
  packet_done count a b c (Err fault) is puts later =
      let entries = flat_map entry_bytes (level_part chunks level (2048 * j) count) in
      let size = ap (λ (xs : List ℕ). length xs) (packet-is chunks level j count is) ∙ length-append (heads level.number count) entries in (
        later.0,
        loses_part view a b (heads level.number count) (length entries) (length (index_packet level.number (packet_entries chunks level j))) fault (view c.target) puts (omega arith) later.1,
      )

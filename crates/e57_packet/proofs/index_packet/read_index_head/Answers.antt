use Rattle.std.proofs.Common.{◌≡◌, ◌∙◌, List, ℕ, refl, sym, ap, subst, ◌+◌, ◌%◌, true, false}
use Rattle.e57_layout.specs.Packets.{sort_at, length_at}
use Rattle.e57_layout.specs.IndexPackets.{entry_count_at, level_at}
use Rattle.e57_packet.specs.Reading.{is_misshapen_head}
use Rattle.e57_packet.proofs.Shapes.{index_sort, index_length, index_none, index_many, index_past, index_sound}
use Rattle.e57_packet.proofs.index_packet.read_index_head.Goals as goal
use Rattle.e57_packet.proofs.index_packet.read_index_head.Goals.{then-u8_at-ne0-via-then-u8_at-ne0, then-u8_at-ne0-via-else-u8_at-ne0+then-length-ne0, then-entries-eq0-via-then-entries-eq0, then-entries-eq0-via-else-entries-eq0+then-entries-gt-MOST_ENTRIES, then-entries-eq0-via-else-entries-eq0+else-entries-gt-MOST_ENTRIES+then-length-entries}

pub returns-then-u8_at-ne0 : goal.returns-then-u8_at-ne0
unfolding sort_at length_at
returns-then-u8_at-ne0 c =
    let b = c.as_slice-bytes.result.now in
    let wrong : is_misshapen_head b ≡ true =
    elim c.then-u8_at-ne0.branch [
      | then-u8_at-ne0-via-then-u8_at-ne0 w ↦ index_sort b (λ e. w.if-u8_at-ne0.true (c.u8_at.ensures ∙ e))
      | then-u8_at-ne0-via-else-u8_at-ne0+then-length-ne0 w ↦ index_length b (λ e. w.if-length-ne0.true (ap (λ n. (n + 1) % 4) c.u16_at.ensures ∙ e))
    ] in
    (subst (λ (x : List ℕ). is_misshapen_head x ≡ true) c.as_slice-bytes.ensures wrong, refl)

pub returns-then-entries-eq0 : goal.returns-then-entries-eq0
unfolding entry_count_at length_at
returns-then-entries-eq0 c =
    let b = c.as_slice-bytes.result.now in
    let count = c.u16_at-entries.ensures in
    let length = c.u16_at.ensures in
    let wrong : is_misshapen_head b ≡ true =
    elim c.then-entries-eq0.branch [
      | then-entries-eq0-via-then-entries-eq0 w ↦ index_none b (sym count ∙ w.if-entries-eq0.true)
      | then-entries-eq0-via-else-entries-eq0+then-entries-gt-MOST_ENTRIES w ↦ index_many b (rw count at w.if-entries-gt-MOST_ENTRIES.true)
      | then-entries-eq0-via-else-entries-eq0+else-entries-gt-MOST_ENTRIES+then-length-entries w ↦ index_past b (rw (count, length) at w.if-length-entries.true)
    ] in
    (subst (λ (x : List ℕ). is_misshapen_head x ≡ true) c.as_slice-bytes.ensures wrong, refl)

pub returns : goal.returns
unfolding sort_at length_at entry_count_at level_at
returns c =
    let b = c.as_slice-bytes.result.now in
    let count = c.u16_at-entries.ensures in
    let length = c.u16_at.ensures in
    let sound : is_misshapen_head b ≡ false =
    index_sound b (sym c.u8_at.ensures ∙ c.if-u8_at-ne0.false) (sym (ap (λ n. (n + 1) % 4) length) ∙ c.if-length-ne0.false) (λ e. c.if-entries-eq0.false (count ∙ e)) (rw count at c.if-entries-gt-MOST_ENTRIES.false) (rw (count, length) at c.if-length-entries.false) in (
      subst (λ (x : List ℕ). is_misshapen_head x ≡ false) c.as_slice-bytes.ensures sound,
      rw (count, c.u8_at-2.ensures, c.as_slice-bytes.ensures) refl,
    )

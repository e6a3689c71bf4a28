use Rattle.std.proofs.Common.{◌∙◌, refl, sym, arith}
use Rattle.e57_layout.specs.Packets.{stream_count_at}
use Rattle.e57_packet.proofs.Shapes.{data_short, data_count, data_past, data_sound}
use Rattle.e57_packet.proofs.data_packet.read_data_lengths.Goals as goal
use Rattle.e57_packet.proofs.data_packet.read_data_lengths.Goals.{then-packet-lt-LENGTHS-via-then-packet-lt-LENGTHS, then-packet-lt-LENGTHS-via-else-packet-lt-LENGTHS+then-u16_at-fields, then-packet-begin-via-then-packet-begin, then-packet-begin-via-else-packet-begin+then-packet-begin-2}

pub returns-then-packet-lt-LENGTHS : goal.returns-then-packet-lt-LENGTHS
unfolding stream_count_at
returns-then-packet-lt-LENGTHS c =
    let b = c.args.packet.now in
    elim c.then-packet-lt-LENGTHS.branch [
      | then-packet-lt-LENGTHS-via-then-packet-lt-LENGTHS w ↦ (data_short b c.args.fields w.if-packet-lt-LENGTHS.true, refl, refl)
      | then-packet-lt-LENGTHS-via-else-packet-lt-LENGTHS+then-u16_at-fields w ↦ (data_count b c.args.fields (λ e. w.if-u16_at-fields.true (w.u16_at.ensures ∙ e)), refl, refl)
    ]

pub returns-then-packet-begin : goal.returns-then-packet-begin
returns-then-packet-begin c =
    let b = c.args.packet.now in
    elim c.then-packet-begin.branch [
      | then-packet-begin-via-then-packet-begin w ↦ let h = w.if-packet-begin.true in (data_past b c.args.fields (omega arith), refl, refl)
      | then-packet-begin-via-else-packet-begin+then-packet-begin-2 w ↦ let h = rw w.lengths_sum.ensures at w.if-packet-begin-2.true in (data_past b c.args.fields (omega arith), refl, refl)
    ]

pub returns : goal.returns
unfolding stream_count_at
returns c =
    let h = rw c.lengths_sum.ensures at c.if-packet-begin-2.false in
    let within = c.if-packet-begin.false in (
      data_sound c.args.packet.now c.args.fields c.if-packet-lt-LENGTHS.false (sym c.u16_at.ensures ∙ c.if-u16_at-fields.false) (omega arith),
      rw c.requires.ends at c.set_ends.ensures,
    )

use Rattle.std.proofs.Common.{◌-◌, ◌∙◌, refl, append_assoc, rules}
use Rattle.e57_layout.specs.Packets.{packet_head}
use Rattle.e57_layout.proofs.Laws.Layouts.{packet_head-read}
use Rattle.e57_packet.proofs.Writing.{put_number, put_byte, put_all}
use Rattle.e57_packet.proofs.packet_head.write_packet_head.Goals as goal

pub returns-clause-bytes : goal.returns-clause-bytes
unfolding packet_head
returns-clause-bytes c =
    let h = c.args.head.now in
    let sort = put_byte c.as_mut_slice-out.result.now c.put.new.out _ c.to_le_bytes.result 0 h.sort 1 refl (search rules) c.to_le_bytes.ensures refl c.put.ensures in
    let flags = put_byte c.put.new.out c.put-2.new.out _ c.to_le_bytes-2.result 1 h.flags 2 sort (search rules) c.to_le_bytes-2.ensures refl c.put-2.ensures in
    let length = put_number c.put-2.new.out c.put-3.new.out _ c.to_le_bytes-3.result 2 2 (h.length - 1) 4 flags c.to_le_bytes-3.ensures refl c.put-3.ensures in
    put_all c.put-3.new.out _ 4 (search rules) length ∙ simp append_assoc refl

pub returns-clause-reads : goal.returns-clause-reads
returns-clause-reads c b q stands =
    packet_head-read b q c.args.head.now
    (record { sort = search rules; flags = search rules; some = c.requires.some; length = c.requires.most })
    (rw (returns-clause-bytes c) at stands)

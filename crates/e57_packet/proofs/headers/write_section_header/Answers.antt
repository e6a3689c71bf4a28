use Rattle.std.proofs.Common.{◌∙◌, refl, append_assoc, rules}
use Rattle.e57_layout.specs.Headers.{section_head}
use Rattle.e57_layout.proofs.Laws.Layouts.{section_head-read}
use Rattle.e57_packet.proofs.Writing.{put_next, put_number, put_byte, put_all}
use Rattle.e57_packet.proofs.headers.write_section_header.Goals as goal

pub returns-clause-bytes : goal.returns-clause-bytes
unfolding section_head
returns-clause-bytes c =
    let h = c.args.header.now in
    let id = put_byte c.as_mut_slice-out.result.now c.put.new.out _ c.to_le_bytes.result 0 h.id 1 refl (search rules) c.to_le_bytes.ensures refl c.put.ensures in
    let zeros = put_next c.put.new.out c.put-2.new.out _ _ 1 7 8 id refl refl c.put-2.ensures in
    let length = put_number c.put-2.new.out c.put-3.new.out _ c.to_le_bytes-2.result 8 8 h.length 16 zeros c.to_le_bytes-2.ensures refl c.put-3.ensures in
    let data_place = put_number c.put-3.new.out c.put-4.new.out _ c.to_le_bytes-3.result 16 8 h.data_place 24 length c.to_le_bytes-3.ensures refl c.put-4.ensures in
    let index = put_number c.put-4.new.out c.put-5.new.out _ c.to_le_bytes-4.result 24 8 h.index 32 data_place c.to_le_bytes-4.ensures refl c.put-5.ensures in
    put_all c.put-5.new.out _ 32 (search rules) index ∙ simp append_assoc refl

pub returns-clause-reads : goal.returns-clause-reads
returns-clause-reads c b q stands =
    section_head-read b q c.args.header.now
    (record { id = search rules; length = search rules; data_place = search rules; index = search rules })
    (rw (returns-clause-bytes c) at stands)

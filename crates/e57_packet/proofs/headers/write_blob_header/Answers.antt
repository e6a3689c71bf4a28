use Rattle.std.proofs.Common.{◌∙◌, refl, append_assoc, rules}
use Rattle.e57_layout.specs.Headers.{blob_head_of}
use Rattle.e57_layout.proofs.Laws.Layouts.{blob_head-read}
use Rattle.e57_packet.proofs.Writing.{put_next, put_number, put_byte, put_all}
use Rattle.e57_packet.proofs.headers.write_blob_header.Goals as goal

pub returns-clause-bytes : goal.returns-clause-bytes
unfolding blob_head_of
returns-clause-bytes c =
    let h = c.args.header.now in
    let id = put_byte c.as_mut_slice-out.result.now c.put.new.out _ c.to_le_bytes.result 0 h.id 1 refl (search rules) c.to_le_bytes.ensures refl c.put.ensures in
    let zeros = put_next c.put.new.out c.put-2.new.out _ _ 1 7 8 id refl refl c.put-2.ensures in
    let length = put_number c.put-2.new.out c.put-3.new.out _ c.to_le_bytes-2.result 8 8 h.length 16 zeros c.to_le_bytes-2.ensures refl c.put-3.ensures in
    put_all c.put-3.new.out _ 16 (search rules) length ∙ simp append_assoc refl

pub returns-clause-reads : goal.returns-clause-reads
returns-clause-reads c b q stands =
    blob_head-read b q c.args.header.now (search rules) (search rules) (rw (returns-clause-bytes c) at stands)

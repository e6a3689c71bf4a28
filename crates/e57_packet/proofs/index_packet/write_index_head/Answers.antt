use Rattle.std.proofs.Common.{◌∙◌, refl, append_assoc, rules}
use Rattle.e57_layout.specs.IndexPackets.{index_head}
use Rattle.e57_layout.proofs.Laws.Layouts.{index_head-count, index_head-level}
use Rattle.e57_packet.proofs.Writing.{put_next, put_number, put_byte, put_all}
use Rattle.e57_packet.proofs.index_packet.write_index_head.Goals as goal

pub returns-clause-bytes : goal.returns-clause-bytes
unfolding index_head
returns-clause-bytes c =
    let h = c.args.head.now in
    let entries = put_number c.as_mut_slice-out.result.now c.put.new.out _ c.to_le_bytes.result 0 2 h.entries 2 refl c.to_le_bytes.ensures refl c.put.ensures in
    let level = put_byte c.put.new.out c.put-2.new.out _ c.to_le_bytes-2.result 2 h.level 3 entries (search rules) c.to_le_bytes-2.ensures refl c.put-2.ensures in
    let zeros = put_next c.put-2.new.out c.put-3.new.out _ _ 3 9 12 level refl refl c.put-3.ensures in
    put_all c.put-3.new.out _ 12 (search rules) zeros ∙ simp append_assoc refl

pub returns-clause-reads : goal.returns-clause-reads
returns-clause-reads c b q stands =
    let here = rw (returns-clause-bytes c) at stands in
    let count = index_head-count b q c.args.head.now (search rules) here in
    let level = index_head-level b q c.args.head.now (search rules) here in
    rw (count, level) refl

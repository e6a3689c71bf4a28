use Rattle.std.proofs.Common.{refl, rules}
use Rattle.e57_layout.specs.IndexPackets.{entry_bytes}
use Rattle.e57_layout.proofs.Laws.Layouts.{entry-read}
use Rattle.e57_packet.proofs.Writing.{put_number, put_all}
use Rattle.e57_packet.proofs.index_packet.write_entry.Goals as goal

pub returns-clause-bytes : goal.returns-clause-bytes
unfolding entry_bytes
returns-clause-bytes c =
    let e = c.args.entry.now in
    let first = put_number c.as_mut_slice-out.result.now c.put.new.out _ c.to_le_bytes.result 0 8 e.first 8 refl c.to_le_bytes.ensures refl c.put.ensures in
    let place = put_number c.put.new.out c.put-2.new.out _ c.to_le_bytes-2.result 8 8 e.place 16 first c.to_le_bytes-2.ensures refl c.put-2.ensures in
    put_all c.put-2.new.out _ 16 (search rules) place

pub returns-clause-reads : goal.returns-clause-reads
returns-clause-reads c b q stands =
    entry-read b q c.args.entry.now (record { first = search rules; place = search rules }) (rw (returns-clause-bytes c) at stands)

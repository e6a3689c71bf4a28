use Rattle.e57_chunk_out.proofs.RunLaws.{room_taken}
use Rattle.e57_chunk_out.proofs.run.take_groups.Goals as goal

pub take_all-requires-clause-room : goal.take_all-requires-clause-room
take_all-requires-clause-room g c = room_taken c.args.from c.args.n c.args.fields.now c.args.run.now c.requires.gathered c.requires.there c.requires.room c.requires.fits

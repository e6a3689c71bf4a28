use Rattle.std.proofs.Common.{inl}
use Rattle.csv.specs.Records.{fields_of}
use Rattle.e57_import.proofs.Walked.{takes_found}
use Rattle.e57_import.proofs.rows.next_row.Goals as goal

pub returns-in-Ok : goal.returns-in-Ok
returns-in-Ok c =
    let r = c.requires in
    let read = c.in-Ok.ensures.reads r.trim r.ready in
    takes_found c.in-Ok.found c.args.reader.now c.read_byte_record.new.self (fields_of c.read_byte_record.new.row) r read (inl (c.in-Ok.ensures.ready r.trim))

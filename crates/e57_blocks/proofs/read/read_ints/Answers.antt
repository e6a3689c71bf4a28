use Rattle.std.specs.Prelude.{pos}
use Rattle.e57_layout.specs.Values.{whole}
use Rattle.e57_column.specs.Column.{kind_of}
use Rattle.e57_blocks.proofs.Getting.{whole_numbers, stops_front, reads_front, length_front}
use Rattle.e57_blocks.proofs.read.read_ints.Goals as goal

pub returns-in-Err-clause-gets : goal.returns-in-Err-clause-gets
returns-in-Err-clause-gets g c =
    rw c.got.ensures (stops_front (pos 0) whole (g.S.Source.view c.args.pages.now.source) (g.S.Source.view c.ints.new.pages.source) c.args.column.now c.ints.new.self c.args.i c.args.want c.in-Err.stopped.done 0 c.args.out.now c.ints.new.out c.in-Err.stopped.fault (whole_numbers (kind_of c.args.column.now.items) c.requires.kind) c.requires.placed c.requires.left c.requires.fits c.in-Err.ensures.items)

pub returns-in-Ok-clause-gets : goal.returns-in-Ok-clause-gets
returns-in-Ok-clause-gets g c =
    reads_front (pos 0) whole (g.S.Source.view c.args.pages.now.source) (g.S.Source.view c.ints.new.pages.source) c.args.column.now c.ints.new.self c.args.i c.in-Ok.count c.args.want c.args.out.now c.ints.new.out (whole_numbers (kind_of c.args.column.now.items) c.requires.kind) c.requires.placed c.requires.some c.requires.left c.requires.fits c.in-Ok.ensures.items.0 c.in-Ok.ensures.items.1

pub returns-in-Err-clause-places : goal.returns-in-Err-clause-places
returns-in-Err-clause-places g c = length_front c.args.out.now c.ints.new.out c.args.want c.in-Err.ensures.items.rest.same_length c.requires.fits

pub returns-in-Ok-clause-places : goal.returns-in-Ok-clause-places
returns-in-Ok-clause-places g c = length_front c.args.out.now c.ints.new.out c.args.want c.in-Ok.ensures.items.1.rest.same_length c.requires.fits

use Rattle.std.specs.Prelude.{length, Ok, Err}
use Rattle.std.proofs.Common.{sym}
use Rattle.e57_blocks.proofs.Getting.{length_front}
use Rattle.e57_blocks.proofs.Cutting.{reads_texts, needs_texts, stops_texts}
use Rattle.e57_blocks.proofs.texts.try_texts.Goals as goal

pub returns-in-None-clause-places : goal.returns-in-None-clause-places
returns-in-None-clause-places g c = length_front c.args.ends.now c.texts.new.ends c.args.want c.in-Ok.ensures.texts.fills.same_ends c.requires.places

pub returns-in-None-clause-room : goal.returns-in-None-clause-room
returns-in-None-clause-room g c = c.in-Ok.ensures.texts.fills.same_bytes

pub returns-in-Some-clause-places : goal.returns-in-Some-clause-places
returns-in-Some-clause-places g c = length_front c.args.ends.now c.texts.new.ends c.args.want c.in-Ok.ensures.texts.fills.same_ends c.requires.places

pub returns-in-Some-clause-room : goal.returns-in-Some-clause-room
returns-in-Some-clause-room g c = c.in-Ok.ensures.texts.fills.same_bytes

pub returns-in-Ok-got-clause-places : goal.returns-in-Ok-got-clause-places
returns-in-Ok-got-clause-places g c = length_front c.args.ends.now c.texts.new.ends c.args.want c.in-Err.ensures.texts.fills.same_ends c.requires.places

pub returns-in-Ok-got-clause-room : goal.returns-in-Ok-got-clause-room
returns-in-Ok-got-clause-room g c = c.in-Err.ensures.texts.fills.same_bytes

pub returns-in-Err-got-clause-places : goal.returns-in-Err-got-clause-places
returns-in-Err-got-clause-places g c = length_front c.args.ends.now c.texts.new.ends c.args.want c.in-Err.ensures.texts.fills.same_ends c.requires.places

pub returns-in-Err-got-clause-room : goal.returns-in-Err-got-clause-room
returns-in-Err-got-clause-room g c = c.in-Err.ensures.texts.fills.same_bytes

pub returns-in-None-clause-tries : goal.returns-in-None-clause-tries
returns-in-None-clause-tries g c = reads_texts (g.S.Source.view c.args.pages.now.source) (g.S.Source.view c.texts.new.pages.source) c.args.column.now c.texts.new.self c.args.i c.args.want c.in-Ok.read c.args.bytes.now c.texts.new.bytes c.args.ends.now c.texts.new.ends c.requires.kind c.requires.placed c.requires.some c.requires.left c.requires.places c.in-None.is c.in-Ok.ensures.texts

pub returns-in-Some-clause-tries : goal.returns-in-Some-clause-tries
returns-in-Some-clause-tries g c = needs_texts (g.S.Source.view c.args.pages.now.source) (g.S.Source.view c.texts.new.pages.source) c.args.column.now c.texts.new.self c.args.i c.args.want c.in-Some.n c.in-Ok.read c.args.bytes.now c.texts.new.bytes c.args.ends.now c.texts.new.ends c.requires.placed c.requires.left c.requires.places c.in-Some.is c.in-Ok.ensures.texts

pub returns-in-Ok-got-clause-tries : goal.returns-in-Ok-got-clause-tries
returns-in-Ok-got-clause-tries g c = stops_texts (g.S.Source.view c.args.pages.now.source) (g.S.Source.view c.texts.new.pages.source) c.args.column.now c.texts.new.self c.args.i c.args.want c.in-Err.stopped.done (length c.args.bytes.now) c.in-Err.stopped.fault (Ok c.in-Ok-got.got) c.args.bytes.now c.texts.new.bytes c.args.ends.now c.texts.new.ends c.requires.kind c.requires.placed c.requires.left c.requires.places (sym c.in-Ok-got.ensures) c.in-Err.ensures.texts

pub returns-in-Err-got-clause-tries : goal.returns-in-Err-got-clause-tries
returns-in-Err-got-clause-tries g c = stops_texts (g.S.Source.view c.args.pages.now.source) (g.S.Source.view c.texts.new.pages.source) c.args.column.now c.texts.new.self c.args.i c.args.want c.in-Err.stopped.done (length c.args.bytes.now) c.in-Err.stopped.fault (Err c.in-Err-got.lost) c.args.bytes.now c.texts.new.bytes c.args.ends.now c.texts.new.ends c.requires.kind c.requires.placed c.requires.left c.requires.places (sym c.in-Err-got.ensures) c.in-Err.ensures.texts

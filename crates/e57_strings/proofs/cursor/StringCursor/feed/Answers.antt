use Rattle.std.proofs.Common.{take}
use Rattle.e57_strings.proofs.HoldsLaws.{Feeds-reads}
use Rattle.e57_strings.proofs.Prefixes.{when_within, when_before, Feeds-string, Feeds-prefix}
use Rattle.e57_strings.proofs.cursor.StringCursor.feed.Goals as goal

pub returns-then-self-clause-stream : goal.returns-then-self-clause-stream
returns-then-self-clause-stream c = λ so_far h.
    let s = c.self.inside in
    let within = when_within s.is_within s.length s.done (take s.held s.prefix) c.args.self.now c.if-self.true c.self.view_is in
    Feeds-reads so_far c.args.piece.now c.args.self.now c.args.out.now c.take_bytes.result c.take_bytes.new.self c.take_bytes.new.out h c.requires
    (Feeds-string c.args.self.now s.length s.done c.args.piece.now c.args.out.now c.take_bytes.result c.take_bytes.new.self c.take_bytes.new.out within c.take_bytes.ensures)

pub returns-else-self-clause-stream : goal.returns-else-self-clause-stream
returns-else-self-clause-stream c = λ so_far h.
    let s = c.self.inside in
    let before = when_before s.is_within s.length s.done (take s.held s.prefix) c.args.self.now c.if-self.false c.self.view_is in
    Feeds-reads so_far c.args.piece.now c.args.self.now c.args.out.now c.take_prefix.result c.take_prefix.new.self c.args.out.now h c.requires
    (Feeds-prefix c.args.self.now (take s.held s.prefix) c.args.piece.now c.args.out.now c.take_prefix.result c.take_prefix.new.self before c.take_prefix.ensures)

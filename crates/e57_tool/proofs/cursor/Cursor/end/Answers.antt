use Rattle.std.proofs.Common.{string_bytes}
use Rattle.e57_tool.proofs.Reading.{word_left}
use Rattle.e57_tool.proofs.cursor.Cursor.end.Goals as goal

pub returns-then-self : goal.returns-then-self
returns-then-self c = word_left string_bytes c.args.self.now.words.now c.args.self.now.next c.if-self.true

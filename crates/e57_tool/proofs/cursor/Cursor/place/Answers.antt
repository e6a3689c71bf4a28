use Rattle.std.proofs.Common.{string_bytes, sym, ◌∙◌}
use Rattle.e57_tool.proofs.Reading.{place_read, no_place}
use Rattle.e57_tool.proofs.cursor.Cursor.place.Goals as goal

pub returns-clause-place : goal.returns-clause-place
returns-clause-place c =
    let now = c.args.self.now in
    let found = c.in-Some.ensures.lookup in
    place_read string_bytes now.words.now now.next c.in-Some.word.now c.as_str-word.result.now found.3.0 found.1 c.as_str-word.ensures.value (sym c.is_place.ensures ∙ c.if-not-is_place.false)

pub returns-then-not-is_place-clause-place : goal.returns-then-not-is_place-clause-place
returns-then-not-is_place-clause-place c =
    let now = c.args.self.now in
    let found = c.in-Some.ensures.lookup in
    no_place string_bytes now.words.now now.next c.in-Some.word.now c.as_str-word.result.now found.3.0 found.1 c.as_str-word.ensures.value (sym c.is_place.ensures ∙ c.if-not-is_place.true)

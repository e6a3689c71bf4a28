use Rattle.std.proofs.Common.{◌∙◌, ap, sym}
use Rattle.std.specs.List.{list_all}
use Rattle.e57_tool.specs.Cursor.{is_digit}
use Rattle.e57_tool.proofs.Numbers.{not_parsed}
use Rattle.e57_tool.proofs.cursor.number_of.Goals as goal

pub returns-in-Err : goal.returns-in-Err
returns-in-Err c = not_parsed c.args.word.now c.in-Err.field-0 (ap (list_all is_digit) (sym c.as_bytes.ensures.value) ∙ sym c.are_digits.ensures ∙ c.if-not-are_digits.false) c.in-Err.ensures.value.0

use Rattle.std.proofs.Common.{◌∙◌, ap, map}
use Rattle.e57_select.proofs.Looked.{listed-numbers}
use Rattle.e57_select.proofs.asked.field_numbers.Goals as goal

pub returns-in_ok-names-in-Some : goal.returns-in_ok-names-in-Some
returns-in_ok-names-in-Some c =
    rw c.in-Some.is (listed-numbers (λ numbers. numbers.items) c.args.fields.now c.in-Some.text.now _ c.named_numbers.result (ap (λ xs. map (λ name. name.now) xs) c.deref.ensures.value ∙ c.in_ok-names-in-Some.ensures) c.named_numbers.ensures)

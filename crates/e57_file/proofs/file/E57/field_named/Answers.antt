use Rattle.std.proofs.Common.{◌∙◌, sym, ap}
use Rattle.e57_tree.specs.Held.{cloud_fields}
use Rattle.e57_file.specs.Opened.{field_number}
use Rattle.e57_file.proofs.Opening.{number_of}
use Rattle.e57_file.proofs.file.E57.field_named.Goals as goal

pub returns-in_err-number : goal.returns-in_err-number
returns-in_err-number c = λ e same fields is.
    number_of (cloud_fields e) c.args.k c.fields.result.now fields c.args.name.now c.from_residual.result (c.fields.ensures.fields e (c.self.view_is ∙ same))
    (c.from_residual.ensures ∙ sym c.in_err-number.was ∙ c.field_number.ensures.number ∙ ap (λ p. field_number p c.fields.result.now) c.as_bytes.ensures.value) is

pub returns : goal.returns
returns c = λ e same fields is.
    number_of (cloud_fields e) c.args.k c.fields.result.now fields c.args.name.now _ (c.fields.ensures.fields e (c.self.view_is ∙ same))
    (sym c.in_ok-number.was ∙ c.field_number.ensures.number ∙ ap (λ p. field_number p c.fields.result.now) c.as_bytes.ensures.value) is

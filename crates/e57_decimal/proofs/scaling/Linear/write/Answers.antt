use Rattle.std.proofs.Common.{◌≡◌, ℕ, ◌*◌, ◌^◌, ◌≤◌, List, ◌++◌, ℤ, ◌+ℤ◌, ◌*ℤ◌, sym, ap, subst, ◌∙◌, rules, to_z, of_z, w64}
use Rattle.std.specs.Prelude.{unsigned_abs}
use Rattle.std.proofs.lemmas.Int.{to_z-of_z}
use mir.Syntax.{w128}
use Rattle.e57_decimal.specs.Fractions.{limit}
use Rattle.e57_decimal.specs.Scaling.{Line, value_of}
use Rattle.e57_decimal.specs.Reading.{HasValue}
use Rattle.e57_decimal.specs.Holding.{line_of}
use Rattle.e57_decimal.specs.Writing.{sign_text, magnitude_text, decimal_text}
use Rattle.e57_decimal.proofs.Lines.{line_text, line_read}
use Rattle.e57_decimal.proofs.scaling.Linear.write.Goals as goal

-- both clauses of the text
record Answered (bytes : List ℕ) (line : Line) (raw : ℤ) : Type 0 where
  text : bytes ≡ decimal_text (value_of line raw)
  value : HasValue bytes (value_of line raw)

pub returns : goal.returns
returns c =
    let l = c.self.inside in
    let raw = to_z-of_z w64 c.args.raw c.ranges.raw in
    let factor = to_z-of_z w128 l.factor (search rules) in
    let summand = to_z-of_z w128 l.summand (search rules) in
    let value : c.value_at.result ≡ c.args.raw *ℤ l.factor +ℤ l.summand =
    c.value_at.ensures.value ∙ ap (λ z. z *ℤ to_z w128 (of_z w128 l.factor) +ℤ to_z w128 (of_z w128 l.summand)) raw
    ∙ ap (λ z. c.args.raw *ℤ z +ℤ to_z w128 (of_z w128 l.summand)) factor ∙ ap (λ z. c.args.raw *ℤ l.factor +ℤ z) summand in
    let text = c.write_number.ensures ∙ ap (λ z. sign_text z ++ magnitude_text (unsigned_abs z * 10 ^ l.up) 60) (to_z-of_z w128 c.value_at.result (search rules) ∙ value)
    ∙ line_text l.scale l.offset c.args.raw l.up l.factor l.summand c.self.invariant.common c.self.invariant.factor c.self.invariant.summand in
    let within : unsigned_abs (c.args.raw *ℤ l.factor +ℤ l.summand) ≤ limit = rw value at c.value_at.ensures.within in
    let read = line_read l.scale l.offset c.args.raw l.up l.factor l.summand c.self.invariant.common c.self.invariant.factor c.self.invariant.summand c.self.invariant.high within in
    let bytes = c.write_number.new.text.bytes in
    let P : List ℕ → Type 0 = λ bs. HasValue bs (value_of (line_of l) c.args.raw) in
    let answered = subst (λ (m : Line). Answered bytes m c.args.raw) c.self.view_is (record { text = text; value = subst P (sym text) read }) in
    record { text = answered.text; value = answered.value }

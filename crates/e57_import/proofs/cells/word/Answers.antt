use Rattle.std.proofs.Common.{◌≡◌, ◌∙◌, ◌^◌, ◌<◌, ℕ, length, sym, subst}
use Rattle.e57_import.proofs.Numerals.{hexadecimal_small}
use Rattle.e57_import.proofs.cells.word.Goals as goal

pub returns-clause-small : goal.returns-clause-small
returns-clause-small c =
    let all = sym c.are_hexadecimal.ensures ∙ c.if-not-are_hexadecimal.false in
    let small = hexadecimal_small c.args.cell.now all in
    subst (λ k. c.numeral.result < 16 ^ k) c.if-cell-count.false (subst (λ n. n < 16 ^ length c.args.cell.now) (sym c.numeral.ensures.value) small)

use Rattle.std.proofs.Common.{◌∙◌, ◌<◌, ℕ, List, length, ap, sym, subst, refl, arith}
use Rattle.std.specs.List.{AllByRecursion}
use Rattle.e57_base.specs.declared.fault.RunFault.{RunFault}
use Rattle.e57_show.specs.Extract.{asked_by, lacking}
use Rattle.e57_show.specs.Extracting.{IsSelected, IsUnselected}
use Rattle.e57_select.proofs.Looked.{counted, is-there, numbers-below}
use Rattle.e57_show.proofs.Selecting.{cloud-lacking, field-lacking, decimal-lacking, range-lacking, is-selected}
use Rattle.e57_show.proofs.select.select.Goals as goal
use Rattle.e57_base.proofs.Options.{by_error}

pub returns-then-asked-have : goal.returns-then-asked-have
returns-then-asked-have c =
    let past = c.if-asked-have.true in
    cloud-lacking (asked_by c.args.ask.now) c.args.file.now c.clouds-clouds.result.now (λ e same. c.clouds-clouds.ensures e (c.tree-2.ensures ∙ same)) (omega (arith, past))

pub returns-in_err-numbers : goal.returns-in_err-numbers
returns-in_err-numbers c =
    let below = c.if-asked-have.false in
    let asked = asked_by c.args.ask.now in
    let there = is-there c.args.file.now c.args.ask.now.cloud (record { node = 0; place = 0; count = 0 }) c.clouds-clouds.result.now c.fields-fields.result.now (λ e same. c.clouds-clouds.ensures e (c.tree-2.ensures ∙ same)) (λ e same. c.fields-fields.ensures.fields e (c.tree-3.ensures ∙ same)) (omega (arith, below)) in
    by_error (λ s. IsSelected c.args.file.now asked s) (λ fault. IsUnselected c.args.file.now asked fault) c.in_err-numbers.field-0.0 c.from_residual.result c.from_residual.ensures.1
    (field-lacking asked c.args.file.now _ c.fields-fields.result.now c.in_err-numbers.field-0.0 there c.in_err-numbers.ensures)

pub lacking-requires-clause-numbers : goal.lacking-requires-clause-numbers
lacking-requires-clause-numbers c =
    subst (AllByRecursion (λ f. f < length c.fields-fields.result.now)) (sym c.deref.ensures.value) (numbers-below c.fields-fields.result.now c.args.ask.now.fields c.in_ok-numbers.numbers.items c.fields-fields.ensures.valid.some c.in_ok-numbers.ensures)

pub returns-in-Some : goal.returns-in-Some
returns-in-Some c =
    let below = c.if-asked-have.false in
    let asked = asked_by c.args.ask.now in
    let fields = c.fields-fields.result.now in
    let there = is-there c.args.file.now c.args.ask.now.cloud (record { node = 0; place = 0; count = 0 }) c.clouds-clouds.result.now fields (λ e same. c.clouds-clouds.ensures e (c.tree-2.ensures ∙ same)) (λ e same. c.fields-fields.ensures.fields e (c.tree-3.ensures ∙ same)) (omega (arith, below)) in
    subst (λ (fault : RunFault). IsUnselected c.args.file.now asked fault) (sym c.no_decimals.ensures)
    (decimal-lacking asked c.args.file.now _ fields c.in_ok-numbers.numbers.items c.in-Some.j there c.fields-fields.ensures.valid.few c.in_ok-numbers.ensures
    (ap (λ (ns : List ℕ). lacking c.args.ask.now.decimal fields ns) (sym c.deref.ensures.value) ∙ sym c.in-Some.ensures))

pub returns-then-cloud-end : goal.returns-then-cloud-end
returns-then-cloud-end c =
    let below = c.if-asked-have.false in
    let past = c.if-cloud-end.true in
    let asked = asked_by c.args.ask.now in
    let there = is-there c.args.file.now c.args.ask.now.cloud (record { node = 0; place = 0; count = 0 }) c.clouds-clouds.result.now c.fields-fields.result.now (λ e same. c.clouds-clouds.ensures e (c.tree-2.ensures ∙ same)) (λ e same. c.fields-fields.ensures.fields e (c.tree-3.ensures ∙ same)) (omega (arith, below)) in
    range-lacking asked c.args.file.now _ c.fields-fields.result.now c.in_ok-numbers.numbers.items c.past_asked-end.result there c.in_ok-numbers.ensures (ap (λ (ns : List ℕ). lacking c.args.ask.now.decimal c.fields-fields.result.now ns) (sym c.deref.ensures.value) ∙ sym c.in_default.ensures) c.past_asked-end.ensures (omega (arith, past))

pub returns : goal.returns
returns c =
    let below = c.if-asked-have.false in
    let within = c.if-cloud-end.false in
    let ends = c.past_asked-end.ensures in
    let asked = asked_by c.args.ask.now in
    let there = is-there c.args.file.now c.args.ask.now.cloud (record { node = 0; place = 0; count = 0 }) c.clouds-clouds.result.now c.fields-fields.result.now (λ e same. c.clouds-clouds.ensures e (c.tree-2.ensures ∙ same)) (λ e same. c.fields-fields.ensures.fields e (c.tree-3.ensures ∙ same)) (omega (arith, below)) in
    is-selected asked c.args.file.now _ c.fields-fields.result.now c.args.ask.now.fields (subst (λ nodes. Rattle.e57_elements.specs.Lawful.AreNodes nodes) c.tree.ensures c.raw-raw.ensures.nodes) (λ e same. c.raw-raw.ensures.typed e (c.tree.ensures ∙ same)) there
    refl refl (counted _ _ _ c.args.ask.now.count c.unwrap_or.ensures) refl refl (omega (arith, within, ends)) c.fields-fields.ensures.valid.some c.in_ok-numbers.ensures
    (ap (λ (ns : List ℕ). lacking c.args.ask.now.decimal c.fields-fields.result.now ns) (sym c.deref.ensures.value) ∙ sym c.in_default.ensures)

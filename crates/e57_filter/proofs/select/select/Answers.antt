use Rattle.std.proofs.Common.{◌∙◌, ℕ, Bool, List, length, map, ap, subst, refl, arith, ◌≡◌, Ok}
use Rattle.std.specs.List.{AllByRecursion}
use Rattle.e57_base.proofs.Options.{by_error}
use Rattle.e57_nodes.specs.Typed.{max_fields}
use Rattle.e57_select.proofs.Looked.{counted, is-there}
use Rattle.e57_filter.specs.Asking.{tests_from, chosen_of}
use Rattle.e57_filter.specs.Asks.{filter_asked, keep_asked}
use Rattle.e57_filter.specs.declared.ask.Keep.{Keep}
use Rattle.e57_filter.specs.Selecting.{field_test, chosen_numbers, IsIntegerField, IsSelected, IsUnselected, LacksTest}
use Rattle.e57_filter.proofs.Chosen.{few-flags}
use Rattle.e57_filter.proofs.Found.{cloud-lacking, field-lacking, test-lacking, range-lacking, is-selected}
use Rattle.e57_filter.proofs.select.select.Goals as goal

pub returns-then-ask-have : goal.returns-then-ask-have
returns-then-ask-have c =
    let past = c.if-ask-have.true in
    cloud-lacking (filter_asked c.args.ask.now) c.args.file.now c.clouds-clouds.result.now (λ e same. c.clouds-clouds.ensures e (c.tree-2.ensures ∙ same)) (omega (arith, past))

pub returns-in_err-named : goal.returns-in_err-named
returns-in_err-named c =
    let below = c.if-ask-have.false in
    let asked = filter_asked c.args.ask.now in
    let fields = c.fields-fields.result.now in
    let there = is-there c.args.file.now c.args.ask.now.cloud (record { node = 0; place = 0; count = 0 }) c.clouds-clouds.result.now fields (λ e same. c.clouds-clouds.ensures e (c.tree-2.ensures ∙ same)) (λ e same. c.fields-fields.ensures.fields e (c.tree-3.ensures ∙ same)) (omega (arith, below)) in
    λ e same.
    by_error (λ s. IsSelected asked e s) (λ fault. IsUnselected asked e fault) c.in_err-named.field-0.0 c.from_residual.result c.from_residual.ensures.1
    (field-lacking asked c.args.file.now _ fields c.in_err-named.field-0.0 there c.in_err-named.ensures e same)

pub returns-in_err-tests : goal.returns-in_err-tests
returns-in_err-tests c =
    let below = c.if-ask-have.false in
    let asked = filter_asked c.args.ask.now in
    let fields = c.fields-fields.result.now in
    let there = is-there c.args.file.now c.args.ask.now.cloud (record { node = 0; place = 0; count = 0 }) c.clouds-clouds.result.now fields (λ e same. c.clouds-clouds.ensures e (c.tree-2.ensures ∙ same)) (λ e same. c.fields-fields.ensures.fields e (c.tree-3.ensures ∙ same)) (omega (arith, below)) in
    let lacks = subst (λ (ks : List Keep). LacksTest fields (map keep_asked ks) c.in_err-tests.field-0.0) c.as_slice.ensures.value c.in_err-tests.ensures in
    λ e same.
    by_error (λ s. IsSelected asked e s) (λ fault. IsUnselected asked e fault) c.in_err-tests.field-0.0 c.from_residual-in_err-tests.result c.from_residual-in_err-tests.ensures.1
    (test-lacking asked c.args.file.now _ fields c.in_ok-named.named.items c.in_err-tests.field-0.0 there c.in_ok-named.ensures lacks e same)

pub returns-then-cloud-end : goal.returns-then-cloud-end
returns-then-cloud-end c =
    let below = c.if-ask-have.false in
    let past = c.if-cloud-end.true in
    let asked = filter_asked c.args.ask.now in
    let fields = c.fields-fields.result.now in
    let there = is-there c.args.file.now c.args.ask.now.cloud (record { node = 0; place = 0; count = 0 }) c.clouds-clouds.result.now fields (λ e same. c.clouds-clouds.ensures e (c.tree-2.ensures ∙ same)) (λ e same. c.fields-fields.ensures.fields e (c.tree-3.ensures ∙ same)) (omega (arith, below)) in
    let made = subst (λ (ks : List Keep). tests_from fields 0 (map keep_asked ks) ≡ Ok (map field_test c.in_ok-tests.tests.items)) c.as_slice.ensures.value c.in_ok-tests.ensures.0 in
    range-lacking asked c.args.file.now _ fields c.in_ok-named.named.items (map field_test c.in_ok-tests.tests.items) c.past_asked-end.result there c.in_ok-named.ensures made c.past_asked-end.ensures (omega (arith, past))

pub numbers_where-requires : goal.numbers_where-requires
numbers_where-requires c =
    few-flags (length c.fields-fields.result.now) max_fields c.deref.result.now c.in_ok-chosen.chosen.items c.deref-2.result.now c.fields-fields.ensures.valid.few c.in_ok-chosen.ensures c.deref-2.ensures.value

pub returns : goal.returns
returns c =
    let below = c.if-ask-have.false in
    let within = c.if-cloud-end.false in
    let ends = c.past_asked-end.ensures in
    let asked = filter_asked c.args.ask.now in
    let fields = c.fields-fields.result.now in
    let there = is-there c.args.file.now c.args.ask.now.cloud (record { node = 0; place = 0; count = 0 }) c.clouds-clouds.result.now fields (λ e same. c.clouds-clouds.ensures e (c.tree-2.ensures ∙ same)) (λ e same. c.fields-fields.ensures.fields e (c.tree-3.ensures ∙ same)) (omega (arith, below)) in
    let made = subst (λ (ks : List Keep). (tests_from fields 0 (map keep_asked ks) ≡ Ok (map field_test c.in_ok-tests.tests.items)) × AllByRecursion (IsIntegerField fields) c.in_ok-tests.tests.items) c.as_slice.ensures.value c.in_ok-tests.ensures in
    is-selected asked c.args.file.now _ fields c.in_ok-named.named.items c.args.ask.now.fields there refl refl (counted _ _ _ c.args.ask.now.count c.unwrap_or.ensures) refl (omega (arith, within, ends))
    c.fields-fields.ensures.valid.some c.fields-fields.ensures.valid.few c.in_ok-named.ensures made
    (c.in_ok-chosen.ensures ∙ ap (λ (ns : List ℕ). chosen_of (length fields) ns) c.deref.ensures.value)
    (c.in_ok-numbers.ensures ∙ ap (λ (bs : List Bool). chosen_numbers bs) c.deref-2.ensures.value)

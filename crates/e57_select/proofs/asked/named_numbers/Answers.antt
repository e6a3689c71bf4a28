use Rattle.std.proofs.Common.{◌≡◌, ◌∙◌, ◌+◌, ◌<◌, refl, sym, subst, map, drop, arith, List, ℕ}
use Rattle.std.proofs.lemmas.List.{length-map}
use Rattle.e57_select.specs.Asking.{numbers_from}
use Rattle.e57_select.specs.Looking.{LacksName}
use Rattle.e57_base.specs.declared.fault.RunFault.{RunFault}
use Rattle.e57_select.proofs.Looked.{behind_all, next-name, absent-name, last-name}
use Rattle.e57_select.proofs.asked.named_numbers.Goals as goal

pub returns-in-None : goal.returns-in-None
returns-in-None c =
    let within = c.loop-j-test.true in
    subst (λ (fault : RunFault). LacksName c.args.fields.now (map (λ name. name.now) c.args.names.now) fault) (sym c.no_field.ensures)
    (c.loop-j.j, subst (λ (n : ℕ). c.loop-j.j < n) (sym (length-map c.args.names.now (λ name. name.now))) (omega (arith, within)), refl, absent-name c.args.fields.now c.args.names.now c.loop-j.j _ c.loop-j.numbers.items (omega (arith, within)) c.loop-j.invariant (sym c.field_named.ensures ∙ c.in-None.is))

pub loop-j-preserved : goal.loop-j-preserved
loop-j-preserved c =
    let within = c.loop-j-test.true in
    subst (λ (xs : List ℕ). numbers_from c.args.fields.now 0 (map (λ name. name.now) c.args.names.now) ≡ behind_all xs (numbers_from c.args.fields.now (c.loop-j.j + 1) (map (λ name. name.now) (drop (c.loop-j.j + 1) c.args.names.now)))) (sym c.in_ok-push-in-Some.ensures.items)
    (next-name c.args.fields.now c.args.names.now c.loop-j.j c.in-Some.f _ c.loop-j.numbers.items (omega (arith, within)) c.loop-j.invariant (sym c.field_named.ensures ∙ c.in-Some.is))

pub returns : goal.returns
returns c = let past = c.loop-j-test.false in last-name c.args.fields.now c.args.names.now c.loop-j.j c.loop-j.numbers.items (omega (arith, past)) c.loop-j.invariant

use Rattle.std.proofs.Common.{◌≡◌, Some, true, false, ◌∙◌, sym, ap, arith}
use Rattle.std.specs.Str.{bytes_eq}
use Rattle.e57_tree.proofs.Named.{value_here, value_later, value_absent}
use Rattle.e57_tree.proofs.attributes.value.Goals as goal

pub returns-then-eq : goal.returns-then-eq
returns-then-eq c =
    let same : bytes_eq c.get-attr.result.now.name c.args.name.now ≡ true = sym (ap (λ n. bytes_eq n c.args.name.now) c.as_slice.ensures) ∙ sym c.eq.ensures ∙ c.if-eq.true in
    ap (λ v. Some v) c.as_slice-then-eq.ensures
    ∙ sym (value_here c.args.name.now c.args.attrs.now c.loop-i.i c.get-attr.result.now c.get-attr.ensures same) ∙ c.loop-i.invariant

pub loop-i-preserved : goal.loop-i-preserved
loop-i-preserved c =
    let other : bytes_eq c.get-attr.result.now.name c.args.name.now ≡ false = sym (ap (λ n. bytes_eq n c.args.name.now) c.as_slice.ensures) ∙ sym c.eq.ensures ∙ c.if-eq.false in
    value_later c.args.name.now c.args.attrs.now c.loop-i.i c.get-attr.result.now c.get-attr.ensures other ∙ c.loop-i.invariant

pub returns : goal.returns
returns c = sym (value_absent c.args.name.now c.args.attrs.now c.loop-i.i (omega arith)) ∙ c.loop-i.invariant

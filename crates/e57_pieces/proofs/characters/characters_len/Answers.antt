use Rattle.std.proofs.Common.{◌≡◌, ◌∙◌, sym, drop, true, false, arith}
use Rattle.std.proofs.lemmas.List.{take_rest}
use Rattle.e57_pieces.specs.Characters.{forbids}
use Rattle.e57_pieces.proofs.Fronts.{clean_stop, clean_go, clean_done}
use Rattle.e57_pieces.proofs.characters.characters_len.Goals as goal

pub returns-then-begins_forbidden : goal.returns-then-begins_forbidden
returns-then-begins_forbidden c =
    let e : forbids (drop c.loop-i.i c.args.text.now) ≡ true = rw take_rest at (sym c.begins_forbidden.ensures ∙ c.if-begins_forbidden.true) in
    omega (arith, clean_stop c.args.text.now c.loop-i.i c.loop-i-test.true e, c.loop-i.invariant)

pub loop-i-preserved : goal.loop-i-preserved
loop-i-preserved c =
    let e : forbids (drop c.loop-i.i c.args.text.now) ≡ false = rw take_rest at (sym c.begins_forbidden.ensures ∙ c.if-begins_forbidden.false) in
    omega (arith, clean_go c.args.text.now c.loop-i.i c.loop-i-test.true e, c.loop-i.invariant)

pub returns : goal.returns
returns c = omega (arith, clean_done c.args.text.now c.loop-i.i c.loop-i-test.false, c.loop-i.invariant)

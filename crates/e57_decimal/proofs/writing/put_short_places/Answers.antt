use Rattle.std.proofs.Common.{◌≡◌, suc, ◌+◌, ◌-◌, ◌/◌, ◌%◌, ◌^◌, ◌<◌, [], ◌∷◌, length, ap, ◌∙◌, arith, length-append}
use Rattle.e57_decimal.proofs.Places.{places_none, places_end, places_put, done_text, first_small}
use Rattle.e57_decimal.proofs.Tens.{pow-pos, pow-less}
use Rattle.std.proofs.Math.Nat.{mod-lt}
use Rattle.e57_decimal.proofs.writing.put_short_places.Goals as goal

pub returns-then-left-eq0 : goal.returns-then-left-eq0
returns-then-left-eq0 c =
    let k = c.args.places - c.loop.counter in
    done_text _ _ _ (places_none k c.loop.left c.if-left-eq0.true) c.loop.invariant.put

pub nonzero_div-digit : goal.nonzero_div-digit
nonzero_div-digit c =
    let k = c.args.places - (c.loop.counter + 1) in
    let power = pow-less c.loop.power (c.args.places - c.loop.counter) k (omega arith) c.loop.invariant.power in
    let some = pow-pos k in
    omega arith

pub nonzero_rem-left : goal.nonzero_rem-left
nonzero_rem-left c =
    let k = c.args.places - (c.loop.counter + 1) in
    let power = pow-less c.loop.power (c.args.places - c.loop.counter) k (omega arith) c.loop.invariant.power in
    let some = pow-pos k in
    omega arith

pub loop-preserved : goal.loop-preserved
loop-preserved c =
    let left = c.args.places - c.loop.counter in
    let k = c.args.places - (c.loop.counter + 1) in
    let one : left ≡ suc k = omega arith in
    let next : left ≡ k + 1 = omega arith in
    let power : c.loop.power / 10 ≡ 10 ^ k = pow-less c.loop.power left k next c.loop.invariant.power in
    let some = pow-pos k in
    let same : c.loop.power ≡ 10 ^ (k + 1) = c.loop.invariant.power ∙ ap (λ j. 10 ^ j) next in
    let below = c.loop.invariant.below in
    let small : c.loop.left / 10 ^ k < 10 = first_small k c.loop.left (omega arith) in
    let digit : c.loop.left / (c.loop.power / 10) ≡ c.loop.left / 10 ^ k = ap (λ p. c.loop.left / p) power in
    let rest : c.loop.left % (c.loop.power / 10) ≡ c.loop.left % 10 ^ k = ap (λ p. c.loop.left % p) power in
    let room = c.loop.invariant.room in
    let put = c.push.ensures.ascii (omega arith) in
    let longer = ap length put ∙ length-append c.loop.text.bytes ((48 + c.loop.left / (c.loop.power / 10)) ∷ []) in
    record {
      power = power;
      below = mod-lt c.loop.left (omega arith);
      room = omega arith;
      put = places_put c.loop.text.bytes c.push.new.self.bytes left k c.loop.left (c.loop.left / (c.loop.power / 10)) (c.loop.left % (c.loop.power / 10)) one c.if-left-eq0.false digit rest put ∙ c.loop.invariant.put;
    }

pub returns : goal.returns
returns c =
    let k = c.args.places - c.loop.counter in
    done_text _ _ _ (places_end k c.loop.left (omega arith)) c.loop.invariant.put

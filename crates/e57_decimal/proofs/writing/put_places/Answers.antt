use Rattle.std.proofs.Common.{◌≡◌, ℕ, suc, ◌+◌, ◌-◌, ◌/◌, ◌%◌, ◌^◌, ◌<◌, [], ◌∷◌, length, sym, ap, subst, ◌∙◌, arith, length-append}
use Rattle.e57_decimal.proofs.Places.{done_text, places_none, places_end, places_put, rest_below}
use Rattle.e57_decimal.proofs.writing.put_places.Goals as goal

pub returns-then-rest-eq0 : goal.returns-then-rest-eq0
returns-then-rest-eq0 c =
    let left = c.args.places - c.loop-done.done in
    done_text _ _ _ (places_none left c.loop-done.rest c.if-rest-eq0.true) c.loop-done.invariant.put

pub loop-done-preserved : goal.loop-done-preserved
loop-done-preserved c =
    let left = c.args.places - c.loop-done.done in
    let k = c.args.places - (c.loop-done.done + 1) in
    let same : c.args.places - c.loop-done.done - 1 ≡ k = omega arith in
    let one : left ≡ suc k = omega arith in
    let small = c.split_digit-digit.ensures.small in
    let room = c.loop-done.invariant.room in
    let put = c.push.ensures.ascii (omega arith) in
    let longer = ap length put ∙ length-append c.loop-done.text.bytes ((48 + c.split_digit-digit.result.0) ∷ []) in
    let digit = c.split_digit-digit.ensures.digit ∙ ap (λ j. c.loop-done.rest / 10 ^ j) same in
    let rest = c.split_digit-digit.ensures.rest ∙ ap (λ j. c.loop-done.rest % 10 ^ j) same in
    let P : ℕ → Type 0 = λ n. n < 10 ^ k in
    record {
      below = subst P (sym rest) (rest_below k c.loop-done.rest);
      room = omega arith;
      put = places_put c.loop-done.text.bytes c.push.new.self.bytes left k c.loop-done.rest c.split_digit-digit.result.0 c.split_digit-digit.result.1 one c.if-rest-eq0.false digit rest put ∙ c.loop-done.invariant.put;
    }

pub returns : goal.returns
returns c =
    let left = c.args.places - c.loop-done.done in
    done_text _ _ _ (places_end left c.loop-done.rest (omega arith)) c.loop-done.invariant.put

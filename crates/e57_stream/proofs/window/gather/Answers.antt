use Rattle.std.proofs.Common.{◌≡◌, ◌∙◌, ◌+◌, ◌-◌, ◌≤◌, ℕ, List, length, take, drop, ◌++◌, sym, ap, arith, zero-add}
use Rattle.std.specs.List.{copy_within}
use Rattle.std.proofs.lemmas.Slice.{take-put_mid}
use Rattle.std.proofs.lemmas.List.Edits.{take-paste}
use Rattle.std.proofs.lemmas.List.{length-drop}
use Rattle.e57_stream.proofs.window.gather.Goals as goal

moved : (buffer : List ℕ) (begin end : ℕ) → begin ≤ end → end ≤ length buffer → take (end - begin) (copy_within buffer begin end 0) ≡ take (end - begin) (drop begin buffer)
moved buffer begin end order within =
    let room : end - begin ≤ length (drop begin buffer) = rw length-drop (omega arith) in
    ap (λ (n : ℕ). take n (copy_within buffer begin end 0)) (sym (zero-add (end - begin))) ∙ take-paste buffer 0 (drop begin buffer) (end - begin) (omega arith) room

pub returns : goal.returns
returns c =
    let now = c.copy_within.ensures.after in
    let len = c.copy_within.ensures.len in
    let same = c.copy_from_slice.ensures.after in
    let order = c.requires.order in
    let within = c.requires.within in
    let fits = c.requires.fits in
    let size : c.args.end - c.args.begin + length c.args.more.now ≡ c.args.end - c.args.begin + length c.copy_from_slice.new.self = ap (λ (xs : List ℕ). c.args.end - c.args.begin + length xs) (sym same) in
    record {
      front = take-put_mid (c.args.end - c.args.begin) (c.args.end - c.args.begin + length c.args.more.now - (c.args.end - c.args.begin)) c.copy_within.new.self c.copy_from_slice.new.self (c.args.end - c.args.begin + length c.args.more.now) size (omega (arith, len, fits))
          ∙ ap (λ (xs : List ℕ). take (c.args.end - c.args.begin) c.copy_within.new.self ++ xs) same
          ∙ ap (λ (xs : List ℕ). xs ++ c.args.more.now) (ap (take (c.args.end - c.args.begin)) now ∙ moved c.args.buffer.now c.args.begin c.args.end order within);
    }

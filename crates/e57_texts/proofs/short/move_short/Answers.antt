use Rattle.std.proofs.Common.{◌≡◌, length, drop, ap, ◌∙◌, arith}
use Rattle.std.proofs.lemmas.List.{length-take, length-drop, take_at}
use Rattle.e57_texts.proofs.short.move_short.Goals as goal

pub returns-clause-front : goal.returns-clause-front
returns-clause-front c =
    let there = c.requires.there in
    let behind = length-drop 1 c.args.bytes.now in
    let count : length c.copy_from_slice.new.self ≡ 16 = ap length c.copy_from_slice.ensures.after ∙ length-take 16 (drop 1 c.args.bytes.now) ∙ omega (arith, there, behind) in
    take_at c.copy_from_slice.new.self (drop 16 c.args.out.now) 16 count ∙ c.copy_from_slice.ensures.after

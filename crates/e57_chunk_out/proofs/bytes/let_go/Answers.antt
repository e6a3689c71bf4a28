use Rattle.std.proofs.Common.{◌≡◌, ◌+◌, ◌-◌, take, drop, sym, ap, ◌∙◌, arith, length-drop}
use lib.Seq.{paste}
use Rattle.std.proofs.lemmas.List.{drop-take}
use Rattle.std.proofs.lemmas.List.Edits.{take-paste}
use Rattle.e57_chunk_out.proofs.bytes.let_go.Goals as goal

pub returns : goal.returns
returns g c =
    let all = c.args.items.now in
    let from = c.args.n in
    let until = c.args.until in
    let same : until - from ≡ 0 + (until - from) = omega arith in
    let whole : from + (until - from) ≡ until = omega (arith, c.requires) in
    ap (take (until - from)) c.copy_within.ensures.after ∙ ap (λ k. take k (paste all 0 (drop from all) (until - from))) same
    ∙ take-paste all 0 (drop from all) (until - from) (omega arith) (omega (arith, c.requires, length-drop from all))
    ∙ sym (drop-take from (until - from) all) ∙ ap (λ k. drop from (take k all)) whole

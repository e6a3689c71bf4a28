use Rattle.std.proofs.Common.{◌≡◌, arith, refl}
use Rattle.e57_stream.specs.Standing.{let_gone, whole_bytes}
use Rattle.e57_stream.proofs.chunk.let_go.Goals as goal
use Rattle.e57_stream.proofs.chunk.let_go.Goals.{then-whole-held, else-whole-held}

pub returns : goal.returns
unfolding let_gone
returns c =
    let held = c.len-held.ensures.count in
    let gone : c.if-whole-held.gone ≡ whole_bytes c.args.chunk.now = elim c.if-whole-held.branch [ then-whole-held w ↦ omega (arith, held) | else-whole-held w ↦ omega (arith, held) ] in
    rw (c.skip.ensures, gone) refl

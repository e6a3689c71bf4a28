use Rattle.std.proofs.Common.{length, subst, arith}
use Rattle.e57_stream.specs.Integers.{UnpacksFrom}
use Rattle.e57_stream.proofs.Spare.{unpacks_held}
use Rattle.e57_stream.proofs.integers.unpack_held.Goals as goal

pub returns : goal.returns
returns c =
    let there = c.requires.there in
    subst (λ b. UnpacksFrom c.args.range.now b c.args.bit c.args.out.now c.unpack_at.result c.unpack_at.new.out) c.with_spare.ensures.bytes
    (unpacks_held c.with_spare.result.now (length c.args.window.now) c.args.bit c.args.range.now.width _ _ c.args.out.now _ _ there (omega (arith, there)) c.unpack_at.ensures)

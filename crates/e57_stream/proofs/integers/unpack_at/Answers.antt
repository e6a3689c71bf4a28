use Rattle.std.proofs.Common.{rules, length, FitsSigned, w64}
use Rattle.std.proofs.Math.Facts.{to_z-of_z}
use Rattle.std.proofs.lemmas.List.{take_rest}
use Rattle.e57_stream.proofs.Unpackings.{can_unpack}
use Rattle.e57_stream.proofs.integers.unpack_at.Goals as goal

pub unpack-requires : goal.unpack-requires
unpack-requires c =
    let fits : FitsSigned w64 c.args.range.now.low = search rules in
    let fits_too : FitsSigned w64 c.args.range.now.high = search rules in
    rw c.span.ensures (simp (to_z-of_z, take_rest) (can_unpack c.args.range.now c.args.bytes.now c.args.bit (length c.args.out.now) c.requires.range fits fits_too c.requires.there))

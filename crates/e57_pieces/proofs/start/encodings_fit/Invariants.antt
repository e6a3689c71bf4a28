use Rattle.std.proofs.Common.{◌≡◌, drop}
use Rattle.e57_pieces.specs.Start.{encoding_fits}
use Rattle.e57_pieces.proofs.start.encodings_fit.Given as goal

abbrev pub invariant-loop-i : goal.invariant-loop-i
invariant-loop-i l = encoding_fits (drop l.i l.attrs) ≡ encoding_fits l.attrs

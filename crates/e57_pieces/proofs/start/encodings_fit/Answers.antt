use Rattle.std.proofs.Common.{◌∙◌, sym, arith}
use Rattle.e57_pieces.proofs.Encodings.{fits_more, fits_not, fits_done}
use Rattle.e57_pieces.proofs.start.encodings_fit.Goals as goal

pub returns-then-not-encoding_fits : goal.returns-then-not-encoding_fits
returns-then-not-encoding_fits c = sym (fits_not c.args.attrs.now c.loop-i.i c.get.result.now (omega arith) c.get.ensures (sym c.encoding_fits.ensures ∙ c.if-not-encoding_fits.true)) ∙ c.loop-i.invariant

pub loop-i-preserved : goal.loop-i-preserved
loop-i-preserved c = fits_more c.args.attrs.now c.loop-i.i c.get.result.now (omega arith) c.get.ensures (sym c.encoding_fits.ensures ∙ c.if-not-encoding_fits.false) ∙ c.loop-i.invariant

pub returns : goal.returns
returns c = sym (fits_done c.args.attrs.now c.loop-i.i (omega arith)) ∙ c.loop-i.invariant

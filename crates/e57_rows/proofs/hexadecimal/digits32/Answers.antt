use Rattle.std.proofs.Common.{refl}
use Rattle.e57_rows.specs.Cells.{hex}
use Rattle.e57_rows.proofs.hexadecimal.digits32.Goals as goal

pub returns : goal.returns
unfolding hex
returns c =
    rw (c.pair-a.ensures.high, c.pair-a.ensures.low, c.pair-c.ensures.high, c.pair-c.ensures.low)
    (rw (c.pair-e.ensures.high, c.pair-e.ensures.low, c.pair-g.ensures.high, c.pair-g.ensures.low) refl)

use Rattle.std.proofs.Common.{refl}
use Rattle.e57_rows.specs.Cells.{hex}
use Rattle.e57_rows.proofs.hexadecimal.digits64.Goals as goal

pub returns : goal.returns
unfolding hex
returns c =
    rw (c.pair-a.ensures.high, c.pair-a.ensures.low, c.pair-c.ensures.high, c.pair-c.ensures.low, c.pair-e.ensures.high, c.pair-e.ensures.low, c.pair-g.ensures.high, c.pair-g.ensures.low)
    (rw (c.pair-i.ensures.high, c.pair-i.ensures.low, c.pair-k.ensures.high, c.pair-k.ensures.low, c.pair-m.ensures.high, c.pair-m.ensures.low, c.pair-o.ensures.high, c.pair-o.ensures.low) refl)

use Rattle.std.proofs.Common.{◌≡◌, ◌+◌, ◌-◌, ◌*◌, ◌<◌, min, true, false}
use Rattle.e57_layout.specs.Packing.{fits_packet}
use Rattle.e57_chunk_out.proofs.Side.{grown}
use Rattle.e57_chunk_out.proofs.fields.fitting.Given as goal

abbrev pub invariant-loop-low : goal.invariant-loop-low
invariant-loop-low l = record {
  order : l.low < l.high;
  within : 8 * l.high < l.most + 8;
  low_fits : 0 < l.low → fits_packet (grown l.from (8 * l.low) l.fields) ≡ true;
  high_not : fits_packet (grown l.from (min (8 * l.high) l.most) l.fields) ≡ false;
}

abbrev pub decreases-loop-low : goal.decreases-loop-low
decreases-loop-low l = l.high - l.low

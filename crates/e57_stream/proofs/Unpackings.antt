-- What unpacking from a bit on needs.
use Rattle.std.proofs.Common.{ℕ, ◌+◌, ◌-◌, ◌*◌, ◌/◌, ◌%◌, ◌^◌, ◌≤◌, List, length, drop, arith, FitsSigned, w64}
use Rattle.std.specs.Prelude.{ℤ, pos, ◌≤ℤ◌}
use Rattle.std.specs.Int.{int_gap}
use Rattle.std.proofs.lemmas.Int.{ints}
use Rattle.std.proofs.lemmas.List.{length-drop}
use Rattle.e57_lanes.specs.Unpack.{CanUnpack}
use Rattle.e57_layout.specs.Widths.{width}
use Rattle.e57_layout.proofs.Laws.Widths.{bit_length-le, width-holds, gap-lt, gap-back}
use Rattle.e57_stream.specs.declared.bytestream.Integers.{Integers}
use Rattle.e57_stream.specs.Integers.{IsRange}

width_most : (low high : ℤ) → width low high ≤ 64
unfolding width
width_most low high = bit_length-le 64 (int_gap low high)

pub can_unpack : (range : Integers) (bytes : List ℕ) (bit n : ℕ) → IsRange range → FitsSigned w64 range.low → FitsSigned w64 range.high → bit + range.width * n ≤ 8 * length bytes → CanUnpack (drop (bit / 8) bytes) (bit % 8) range.width range.low (int_gap range.low range.high) n
can_unpack range bytes bit n is fits fits_too there =
    let size = length-drop (bit / 8) bytes in
    let most = width_most range.low range.high in
    let gap = width-holds range.low range.high (gap-lt range.low range.high fits fits_too) in
    let same = is.width_is in
    let highest = gap-back range.low range.high is.order in
    record {
      phase_in_byte = omega arith;
      width_in_word = rw same most;
      bits_there = omega (arith, size, there);
      span_in_width = rw same gap;
      items_fit = rw highest (highest_fits range.high fits_too);
    }
  where
    highest_fits : (z : ℤ) → FitsSigned w64 z → z ≤ℤ pos (2 ^ 63 - 1)
    highest_fits z fit = omega (arith, ints)

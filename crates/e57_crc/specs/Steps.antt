-- The register while only bits 0 come in.
use Rattle.std.specs.Prelude.{ℕ, zero, suc, ◌%◌}
use Rattle.e57_crc.specs.Crc.{shifted}

-- the register after one bit 0
unfoldable pub step : ℕ → ℕ
step r = shifted r (r % 2)

-- the register after k bits 0
unfoldable pub steps : ℕ → ℕ → ℕ
steps zero r = r
steps (suc k) r = step (steps k r)

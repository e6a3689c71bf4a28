-- Counts that rise and never fall. A count stands still at 2 ^ 64 - 1.
use Rattle.std.specs.Prelude.{ℕ, ◌+◌, ◌-◌, ◌^◌, ◌≤◌, min}

-- the count after one more
abbrev pub raised : ℕ → ℕ
raised n = min (n + 1) (2 ^ 64 - 1)

-- The count is greater than before, or stands at its end.
abbrev pub Rose : ℕ → ℕ → Type 0
Rose before now = raised before ≤ now

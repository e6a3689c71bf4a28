-- A file from its logical bytes: pages with their checksum words (ASTM E2807, physical layout).
use Rattle.std.specs.Prelude.{ℕ, zero, suc, ◌+◌, ◌-◌, ◌*◌, ◌/◌, List, [], ◌++◌, length, take, drop, replicate, reverse}
use Rattle.e57_crc.specs.Crc.{crc}
use Rattle.e57_layout.specs.Bytes.{low_bytes}

-- a payload and its checksum, the most significant byte first
unfoldable pub page_bytes : List ℕ → List ℕ
page_bytes payload = payload ++ reverse (low_bytes 4 (crc payload))

-- n pages of these logical bytes
unfoldable pub sealed : ℕ → List ℕ → List ℕ
sealed zero bytes = []
sealed (suc n) bytes = page_bytes (take 1020 bytes) ++ sealed n (drop 1020 bytes)

-- bytes and zeros, up to the end of n pages' payloads
unfoldable pub filled : ℕ → List ℕ → List ℕ
filled n bytes = bytes ++ replicate (1020 * n - length bytes) 0

-- how many pages n logical bytes take
unfoldable pub pages_for : ℕ → ℕ
pages_for n = (n + 1019) / 1020

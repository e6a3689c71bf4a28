-- Physical and logical offsets (ASTM E2807, physical layout): of each 1024 bytes of a file the first 1020 are logical.
use Rattle.std.specs.Prelude.{ℕ, ◌+◌, ◌-◌, ◌*◌, ◌/◌, ◌%◌, ◌<◌, ◌≤◌, nat_lt, ◌==◌, if◌then◌else◌, List, [], ◌∷◌, Option, Some, None}
use Rattle.e57_base.specs.Source.{page_length}

-- the logical bytes of a page
abbrev pub payload_length : ℕ
payload_length = 1020

-- the logical place of a physical offset: none where it lies in a page's word
abbrev pub place : ℕ → Option ℕ
place physical = if nat_lt (physical % page_length) payload_length then Some (physical / page_length * payload_length + physical % page_length) else None

-- The first page behind the span of the n logical bytes from place q on: the span has the pages from q / 1020 on
-- below it, none where n is 0.
abbrev pub span_end : ℕ → ℕ → ℕ
span_end q n = if n == 0 then q / payload_length else (q + n - 1) / payload_length + 1

-- Pages of a span, rising, each at most once: each is low or above, and below high.
abbrev pub RisesWithin : ℕ → ℕ → List ℕ → Type 0
RisesWithin low high [] = Unit {0}
RisesWithin low high (page ∷ pages) = (low ≤ page) × (page < high) × RisesWithin (page + 1) high pages

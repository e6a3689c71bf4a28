-- The page of a new file on which its next section begins.
use Rattle.std.specs.Prelude.{ℕ, ◌+◌, ◌/◌, List, length}
use Rattle.e57_nodes.specs.Items.{StatedItem}
use Rattle.e57_page.specs.Place.{payload_length}
use Rattle.e57_plain.specs.Written.{sections_from}
use Rattle.e57_verdict.specs.Things.{Body}

-- the page that follows the sections of these items, the first of which begins with page p
unfoldable pub next_page : ℕ → ℕ → List StatedItem → List Body → ℕ
next_page n p items bodies = p + length (sections_from n p items bodies) / payload_length

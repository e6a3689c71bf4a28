-- What of a cloud's first records is in whole packets, and what is under way, while it is written in chunks of n records:
-- of the first e records, which are whole groups.
use Rattle.std.specs.Prelude.{ℕ, ◌-◌, ◌*◌, ◌/◌, Bool, true, false, List, [], ◌∷◌, ◌++◌, Option, None}
use Rattle.e57_layout.specs.Values.{ItemKind, Value}
use Rattle.e57_layout.specs.Packing.{first_records, later_records, chunk_groups}
use Rattle.e57_layout.specs.Steps.{steps}
use Rattle.e57_layout.specs.Written.{Spelled, flagged, data_spelled}

-- how many of the first e records are in whole chunks of n
unfoldable pub in_chunks : ℕ → ℕ → ℕ
in_chunks n e = n * (e / n)

-- the groups of the chunk that is under way
unfoldable pub open_groups : List ItemKind → ℕ → ℕ → List (List Value) → List (List (List ℕ))
open_groups kinds n e cs = chunk_groups kinds (record { count = e - in_chunks n e; columns = later_records (in_chunks n e) cs })

-- the packets of the whole chunks
unfoldable pub closed_packets : List ItemKind → ℕ → ℕ → List (List Value) → List Spelled
closed_packets kinds n e cs = data_spelled kinds n (in_chunks n e) (first_records (in_chunks n e) cs)

-- the streams of the whole packets of the chunk that is under way
unfoldable pub open_packets : List ItemKind → ℕ → ℕ → List (List Value) → List (List (List ℕ))
open_packets kinds n e cs = (steps None (open_groups kinds n e cs)).done

-- all packets so far
unfoldable pub packets_so_far : List ItemKind → ℕ → ℕ → List (List Value) → List Spelled
packets_so_far kinds n e cs = closed_packets kinds n e cs ++ flagged true (open_packets kinds n e cs)

-- the streams of the groups behind the last packet
unfoldable pub run_so_far : List ItemKind → ℕ → ℕ → List (List Value) → Option (List (List ℕ))
run_so_far kinds n e cs = (steps None (open_groups kinds n e cs)).run

abbrev pub is_nil : {A : Type 0} → List A → Bool
is_nil [] = true
is_nil (x ∷ xs) = false

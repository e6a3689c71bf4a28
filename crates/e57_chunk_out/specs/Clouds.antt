-- What the parts of a cloud that is written are together.
use Rattle.std.specs.Prelude.{◌≡◌, ℕ, ◌+◌, ◌*◌, ◌<◌, ◌≤◌, Bool, true, false, List, [], Option, Some, None}
use Rattle.e57_page.specs.Place.{payload_length}
use Rattle.e57_chunk_out.specs.Waiting.{Waiting, IsWaiting}
use Rattle.e57_chunk_out.specs.Grouping.{kinds_of, columns_of, run_of}
use Rattle.e57_chunk_out.specs.Going.{has_run, HasRuns}
use Rattle.e57_chunk_out.specs.Turns.{IsChunked}
use Rattle.e57_chunk_out.specs.Standing.{Cloud, in_groups}
use Rattle.e57_chunk_out.specs.declared.section.Begun.{Begun}
use Rattle.e57_chunk_out.specs.declared.turn.Chunks.{Chunks}

-- as contracts see it
abbrev pub cloud_of : List Waiting → Chunks → ℕ → Option Begun → Bool → Cloud
cloud_of fields chunks count section is_spent = record {
  kinds = kinds_of fields;
  chunk = chunks.records;
  at_most = chunks.at_most;
  count = count;
  pending = columns_of fields;
  run = run_of (has_run chunks.run) fields;
  is_begun = chunks.run.is_begun;
  entries = chunks.index.entries;
  section = section;
  is_spent = is_spent;
}

-- the section is begun if a record came, and then has its header's bytes
abbrev pub IsBegunWith : Option Begun → ℕ → Type 0
IsBegunWith None count = count ≡ 0
IsBegunWith (Some s) count = (0 < count) × (payload_length * s.page + 32 ≤ s.size)

pub record IsCloud (fields : List Waiting) (chunks : Chunks) (count : ℕ) (section : Option Begun) : Type 0 where
  pub chunked : IsChunked (in_groups count) fields chunks
  pub few : count ≤ chunks.at_most
  pub begun : IsBegunWith section count

-- nothing is known of a cloud that is spent
abbrev pub IsCloudUnless : Bool → List Waiting → Chunks → ℕ → Option Begun → Type 0
IsCloudUnless true fields chunks count section = Unit {0}
IsCloudUnless false fields chunks count section = IsCloud fields chunks count section

-- a field of which nothing waits and nothing is under way, where a chunk has at most so many records
pub record IsEmptyField (most : ℕ) (w : Waiting) : Type 0 where
  pub waiting : IsWaiting w
  pub items : w.items ≡ []
  pub stream : w.stream ≡ []
  pub runs : HasRuns 0 most w

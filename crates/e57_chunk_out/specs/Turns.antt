-- The chunks of a section that is written, and what becomes of them with more records.
use Rattle.std.specs.Prelude.{◌≡◌, ℕ, ◌+◌, ◌-◌, ◌*◌, ◌/◌, ◌%◌, ◌^◌, ◌<◌, ◌≤◌, List, [], ◌∷◌, ◌++◌, length, min, Option}
use Rattle.e57_base.specs.Target.{TargetView}
use Rattle.e57_layout.specs.Values.{ItemKind, Value}
use Rattle.e57_layout.specs.Items.{AreColumns}
use Rattle.e57_layout.specs.Packing.{first_records, later_records}
use Rattle.e57_layout.specs.Written.{packets_bytes, physical}
use Rattle.e57_page.specs.Place.{payload_length}
use Rattle.e57_page_out.specs.Sealed.{pages_for}
use Rattle.e57_page_out.specs.Writing.{Writing, KeepsTarget, IsBeingWritten, most_bytes}
use Rattle.e57_chunk_out.specs.Waiting.{Waiting}
use Rattle.e57_chunk_out.specs.Grouping.{kinds_of, columns_of, run_of}
use Rattle.e57_chunk_out.specs.Going.{IsGathered, has_run}
use Rattle.e57_chunk_out.specs.Progress.{packets_so_far}
use Rattle.e57_chunk_out.specs.Standing.{IsUnderWay}
use Rattle.e57_chunk_out.specs.declared.turn.Chunks.{Chunks}

-- how many chunks of n records are begun with the first e records
abbrev pub chunks_begun : ℕ → ℕ → ℕ
chunks_begun n e = (e + (n - 1)) / n

-- Of the first e records a part is in packets, and a part of the open chunk is the run; each chunk that was begun has its entry.
pub record IsChunked (e : ℕ) (fields : List Waiting) (chunks : Chunks) : Type 0 where
  pub gathered : IsGathered fields chunks.run
  pub some : 0 < chunks.records
  pub groups : chunks.records % 8 ≡ 0
  pub few : chunks.records ≤ 2 ^ 20
  pub limit : chunks.at_most ≤ 2 ^ 40
  pub most : chunks.run.most ≡ min chunks.records chunks.at_most
  pub within : chunks.run.records ≤ e % chunks.records
  pub entries : length chunks.index.entries ≡ chunks_begun chunks.records e
  pub room : chunks.index.room ≡ chunks_begun chunks.records chunks.at_most

-- The section of the first e of these records is under way.
abbrev pub IsOnWay : {T : Type 0} → Option (List ℕ) → ℕ → ℕ → List (List Value) → List Waiting → Chunks → Writing T → Type 0
IsOnWay before start e cs fields chunks out = IsUnderWay before start (kinds_of fields) chunks.records e cs (run_of (has_run chunks.run) fields) chunks.run.is_begun chunks.index.entries out

-- The items that wait from `from` on are those of the records from e on.
pub record AreNext (count : ℕ) (cs : List (List Value)) (e from : ℕ) (fields : List Waiting) : Type 0 where
  pub columns : AreColumns (kinds_of fields) count cs
  pub next : later_records e cs ≡ later_records from (columns_of fields)

-- how many logical bytes a file has behind the packets of the first e of these records
abbrev pub data_end : ℕ → List ItemKind → ℕ → ℕ → List (List Value) → ℕ
data_end start kinds n e cs = payload_length * pages_for start + 32 + length (packets_bytes (packets_so_far kinds n e (first_records e cs)))

-- A chunk that begins with record e has got its entry: its first packet will stand at place q.
pub record BeginsChunk (e q : ℕ) (old new : Chunks) : Type 0 where
  pub fresh : e % old.records ≡ 0 → new ≡ record old { index = record old.index { entries = old.index.entries ++ record { first = e; place = physical q } ∷ [] } }
  pub same : 0 < e % old.records → new ≡ old

-- The k records from `from` on were taken, the first of which has number e.
pub record Turns {T : Type 0} (view : T → TargetView) (e from k : ℕ) (fields : List Waiting) (chunks : Chunks) (out : Writing T) (fields_now : List Waiting) (chunks_now : Chunks) (now : Writing T) : Type 0 where
  pub chunked : IsChunked (e + k) fields_now chunks_now
  pub kinds : kinds_of fields_now ≡ kinds_of fields
  pub columns : columns_of fields_now ≡ columns_of fields
  pub records : chunks_now.records ≡ chunks.records
  pub at_most : chunks_now.at_most ≡ chunks.at_most
  pub state : IsBeingWritten view now
  pub target : KeepsTarget (view out.target) (view now.target)
  pub held : now.held ≡ out.held
  pub grows : out.size ≤ now.size
  pub way : (before : Option (List ℕ)) (start count : ℕ) (cs : List (List Value)) → AreNext count cs e from fields → e + k ≤ count → IsOnWay before start e cs fields chunks out → IsOnWay before start (e + k) cs fields_now chunks_now now

-- With k records more the file would pass its last page.
abbrev pub PassesAt : {T : Type 0} → ℕ → ℕ → ℕ → List Waiting → Chunks → Writing T → Type 0
PassesAt e from k fields chunks out =
    (before : Option (List ℕ)) (start count : ℕ) (cs : List (List Value)) → AreNext count cs e from fields → e + k ≤ count → IsOnWay before start e cs fields chunks out
    → most_bytes < data_end start (kinds_of fields) chunks.records (e + k) cs

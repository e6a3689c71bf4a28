-- The groups of an open chunk that are under way, in the fields' streams, and what becomes of them with more records.
use Rattle.std.specs.Prelude.{◌≡◌, ◌⊎◌, ℕ, ◌+◌, ◌*◌, ◌%◌, ◌<◌, ◌≤◌, nat_lt, not, ◌||◌, Bool, true, false, List, length, map, min}
use Rattle.std.specs.List.{AllByRecursion}
use Rattle.e57_base.specs.Target.{TargetView}
use Rattle.e57_base.specs.Count.{Rose}
use Rattle.e57_base.specs.declared.fault.WriteFault.{WriteFault}
use Rattle.e57_base.specs.declared.fault.WriteFault.TheVariants.{Target, Large, Memory}
use Rattle.e57_layout.specs.Values.{Value, strings, kind_width}
use Rattle.e57_layout.specs.Packing.{first_records, later_records, chunk_groups, fits_packet, flushed}
use Rattle.e57_layout.specs.Steps.{Step, steps}
use Rattle.e57_layout.specs.Written.{flagged, packets_bytes}
use Rattle.e57_page_out.specs.Sequences.{Leaves, Puts}
use Rattle.e57_page_out.specs.Writing.{Writing}
use Rattle.e57_chunk_out.specs.Waiting.{Waiting, IsWaiting, cleared}
use Rattle.e57_chunk_out.specs.Cutting.{streams_of}
use Rattle.e57_chunk_out.specs.Grouping.{kinds_of, columns_of, run_of, IsFresh}
use Rattle.e57_chunk_out.specs.Progress.{is_nil}
use Rattle.e57_chunk_out.specs.declared.run.Run.{Run}

-- n records, from `from` on
abbrev pub records_at : ℕ → ℕ → List Waiting → List (List Value)
records_at from n fields = first_records n (later_records from (columns_of fields))

-- the run has a record
abbrev pub has_run : Run → Bool
has_run run = nat_lt 0 run.records

-- the most bytes of a field in a packet
abbrev pub stream_limit : ℕ
stream_limit = 65528

-- numbers of at most 64 bits, with so much room
pub record IsNumbers (records most : ℕ) (w : Waiting) : Type 0 where
  pub width : kind_width w.kind ≤ 64
  pub few : length w.stream ≤ 8 * records
  pub room : w.room ≡ min stream_limit (8 * most)

-- Of numbers there is room for a packet's bytes, or for those of all records of a chunk; what is in the run is no more than its
-- records take.
abbrev pub HasRuns : ℕ → ℕ → Waiting → Type 0
HasRuns records most w = (w.kind ≡ strings) ⊎ IsNumbers records most w

-- The fields' streams are the groups of the run.
pub record IsGathered (fields : List Waiting) (run : Run) : Type 0 where
  pub some : 0 < length fields
  pub few : length fields ≤ 512
  pub waiting : AllByRecursion IsWaiting fields
  pub fresh : run.records ≡ 0 → AllByRecursion IsFresh fields
  pub fits : 0 < run.records → fits_packet (streams_of fields) ≡ true
  pub rooms : AllByRecursion (HasRuns run.records run.most) fields

-- what the next k records, from `from` on, lead to
abbrev pub gone : ℕ → ℕ → List Waiting → Run → Step
gone from k fields run = steps (run_of (has_run run) fields) (chunk_groups (kinds_of fields) (record { count = k; columns = records_at from k fields }))

-- These records were taken: their packets were put, and what is left of them is the run.
pub record Goes {T : Type 0} (view : T → TargetView) (from k : ℕ) (fields : List Waiting) (run : Run) (out : Writing T) (fields_now : List Waiting) (run_now : Run) (now : Writing T) : Type 0 where
  pub gathered : IsGathered fields_now run_now
  pub most : run_now.most ≡ run.most
  pub kinds : kinds_of fields_now ≡ kinds_of fields
  pub columns : columns_of fields_now ≡ columns_of fields
  pub few : run_now.records ≤ run.records + k
  pub streams : run_of (has_run run_now) fields_now ≡ (gone from k fields run).run
  pub begun : run_now.is_begun ≡ (run.is_begun || not (is_nil (gone from k fields run).done))
  pub puts : Puts view out (packets_bytes (flagged (not run.is_begun) (gone from k fields run).done)) now

-- the packet of the run, if there is one
abbrev pub run_packets : List Waiting → Run → List ℕ
run_packets fields run = packets_bytes (flagged (not run.is_begun) (flushed (run_of (has_run run) fields)))

-- The chunk was ended: its run was put.
pub record EndsRun {T : Type 0} (view : T → TargetView) (fields : List Waiting) (run : Run) (out : Writing T) (fields_now : List Waiting) (run_now : Run) (now : Writing T) : Type 0 where
  pub emptied : fields_now ≡ map cleared fields
  pub reset : run_now ≡ record run { records = 0; is_begun = false }
  pub puts : Puts view out (run_packets fields run) now

-- whole groups, or all
abbrev pub AreGroups : ℕ → ℕ → Type 0
AreGroups k most = (0 < k) × (k ≤ most) × ((k ≡ most) ⊎ (k % 8 ≡ 0))

-- Why not all was written: the target failed; it is too much, as `past` says; or there was no memory, which is wanted for
-- strings alone. The file was not closed.
abbrev pub LosesRecords : {T : Type 0} → (T → TargetView) → Writing T → Type 0 → Type 0 → WriteFault → TargetView → Type 0
LosesRecords view old past text Target now = Leaves view old now × Rose (view old.target).faults now.faults
LosesRecords view old past text Large now = Leaves view old now × past
LosesRecords view old past text Memory now = Leaves view old now × text

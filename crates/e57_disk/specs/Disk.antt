-- What is known of files of the disk and of a stream: which calls were made, and which of them failed.
use Rattle.std.specs.Prelude.{◌≡◌, ℕ, ◌+◌, Bool, false, ◌==◌, ◌&&◌, if◌then◌else◌, Option, Some, None, Result, is_ok}
use Rattle.std.specs.Option.{option_map}
use Rattle.std.specs.Result.{result_ok}
use Rattle.e57_base.specs.Count.{raised}
use Rattle.e57_base.specs.Source.{SourceView}
use Rattle.e57_base.specs.Target.{TargetView}
use Rattle.e57_base.specs.Sink.{SinkView}

-- the count of faults after a call with this result
abbrev pub faults_after : {T E : Type 0} → Result T E → ℕ → ℕ
faults_after result faults = if is_ok result then faults else raised faults

-- a source of files of the disk
pub record DiskFiles : Type 0 where
  -- the length of the open file in bytes, none where no file is open
  pub size : Option ℕ
  -- how many files were opened or failed to open
  pub opened : ℕ
  -- how many calls failed
  pub faults : ℕ

-- no file was opened
abbrev pub no_files : DiskFiles
no_files = record { size = None; opened = 0; faults = 0 }

-- what a source of files of the disk tells: neither their names nor their bytes
abbrev pub files_view : DiskFiles → SourceView
files_view files = record { stock = None; size = files.size; held = None; asked = None; opened = files.opened; missed = 0; faults = files.faults }

-- after `open`
abbrev pub files_opened : {E : Type 0} → Result ℕ E → DiskFiles → DiskFiles
files_opened result files = record { size = result_ok result; opened = raised files.opened; faults = faults_after result files.faults }

-- after `read_page` or `read_rest`
abbrev pub files_read : {T E : Type 0} → Result T E → DiskFiles → DiskFiles
files_read result files = record files { faults = faults_after result files.faults }

-- a target of a new file of the disk
pub record DiskFile : Type 0 where
  -- how many pages it has had since it was created, none where it isn't created
  pub pages : Option ℕ
  -- its bytes stand in a part beside it, and it hasn't its name yet
  pub beside : Bool
  -- whether it was finished and not touched since
  pub finished : Bool
  -- how many files were created or failed to be created
  pub created : ℕ
  -- how many calls failed
  pub faults : ℕ

-- no file was created
abbrev pub no_file : DiskFile
no_file = record { pages = None; beside = false; finished = false; created = 0; faults = 0 }

-- what a target of a new file of the disk tells: neither its name nor its bytes
abbrev pub file_view : DiskFile → TargetView
file_view file = record { held = None; pages = file.pages; finished = file.finished; created = file.created; named = None; faults = file.faults }

-- After `create`. Whether its bytes stand beside it goes by what has the name; after a failed call none do.
abbrev pub file_created : {T E : Type 0} → Result T E → Bool → DiskFile → DiskFile
file_created result beside file =
    record {
      pages = if is_ok result then Some 0 else None;
      beside = is_ok result && beside;
      finished = false;
      created = raised file.created;
      faults = faults_after result file.faults;
    }

-- after `put_page` of page n
abbrev pub file_put : {T E : Type 0} → ℕ → Result T E → DiskFile → DiskFile
file_put n result file =
    record file {
      pages = if is_ok result then option_map (λ pages. if n == pages then pages + 1 else pages) file.pages else file.pages;
      finished = false;
      faults = faults_after result file.faults;
    }

-- After `finish`: no byte stands beside it any more, unless the call failed.
abbrev pub file_finished : {T E : Type 0} → Result T E → DiskFile → DiskFile
file_finished result file =
    record file {
      beside = if is_ok result then false else file.beside;
      finished = is_ok result;
      faults = faults_after result file.faults;
    }

-- what a stream tells, by how many calls failed
abbrev pub stream_view : ℕ → SinkView
stream_view faults = record { written = None; faults = faults }

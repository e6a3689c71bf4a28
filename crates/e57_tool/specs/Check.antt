-- `check FILE`: the verdict on a file, in one line on `out`.
use Rattle.std.specs.Prelude.{◌≡◌, ℕ, true, false, List, ◌⊎◌, Some, None, IfSome, Result, Ok, Err}
use Rattle.e57_base.specs.Count.{Rose}
use Rattle.e57_base.specs.Source.{SourceView}
use Rattle.e57_base.specs.Opening.{OpensOnce}
use Rattle.e57_base.specs.Sink.{SinkView, Grows, GrowsByFront}
use Rattle.e57_base.specs.declared.fault.Fault.{Fault}
use Rattle.e57_base.specs.declared.fault.OpenFault.{OpenFault}
use Rattle.e57_base.specs.declared.fault.OpenFault.TheVariants as opening
use Rattle.e57_base.specs.declared.fault.RunFault.TheVariants.{Refused, Source, Out, Memory, Ask}
use Rattle.e57_page.specs.File.{length_fault}
use Rattle.e57_verdict.specs.Verdict.{Verdict, accepted, refused, IsVerdict}
use Rattle.e57_check.specs.declared.summary.Summary.{Summary}
use Rattle.e57_tool.specs.declared.ending.Ending.{Ending}
use Rattle.e57_tool.specs.declared.ending.Ending.TheVariants.{Done, RefusedOnOut, RefusedSecond, Failed}
use Rattle.e57_tool.specs.Lines.{accepted_line, refused_line}
use Rattle.e57_tool.specs.Outside.{Outside}
use Rattle.e57_tool.specs.FileAnswer.{LosesSource, stocked}
use Rattle.e57_tool.specs.InPieces.{OpensFile}
use Rattle.e57_tool.specs.Run.{Promise, OneFile}

-- the line of a verdict
abbrev pub verdict_line : Verdict → List ℕ
verdict_line (accepted clouds blobs records) = accepted_line clouds blobs records
verdict_line (refused found) = refused_line found

-- ---- the verdict on a file

-- the verdict that accepts a file with so many clouds, blobs and records
abbrev pub accepting : Summary → Verdict
accepting summary = accepted summary.clouds summary.blobs summary.records

-- The file of this name is open, and has this verdict.
pub record HasVerdict (name : List ℕ) (verdict : Verdict) (old new : SourceView) : Type 0 where
  pub source : OpensFile name old new
  pub is : IfSome new.held (λ file. IsVerdict file verdict)

-- The source failed.
pub record FailsSource (name : List ℕ) (old new : SourceView) : Type 0 where
  pub opens : OpensOnce old name new
  pub cause : Rose old.faults new.faults

-- The file of this name is open, and has whole pages.
pub record HasPages (name : List ℕ) (old new : SourceView) : Type 0 where
  pub source : OpensFile name old new
  pub whole : (size : ℕ) × (new.size ≡ Some size) × (length_fault size ≡ None)

abbrev pub JudgesNot : List ℕ → SourceView → SourceView → OpenFault → Type 0
JudgesNot name old new (opening.Refused found) = HasVerdict name (refused found) old new
JudgesNot name old new opening.Source = FailsSource name old new
JudgesNot name old new opening.Memory = HasPages name old new

-- The file of this name was judged, or the source failed, or memory ran out.
abbrev pub JudgesFile : List ℕ → SourceView → SourceView → Result Summary OpenFault → Type 0
JudgesFile name old new (Ok summary) = HasVerdict name (accepting summary) old new
JudgesFile name old new (Err fault) = JudgesNot name old new fault

-- ---- how the command ends

-- The file has this verdict, and its line was put.
pub record PutsVerdict (name : List ℕ) (verdict : Verdict) (old new : SourceView) (out out' : SinkView) : Type 0 where
  pub has : HasVerdict name verdict old new
  pub wrote : Grows out.written (verdict_line verdict) out'.written

-- The sink failed. A prefix of the line was put.
pub record LosesVerdict (name : List ℕ) (old new : SourceView) (out out' : SinkView) : Type 0 where
  pub verdict : Verdict
  pub has : HasVerdict name verdict old new
  pub cause : Rose out.faults out'.faults
  pub wrote : GrowsByFront out.written (verdict_line verdict) out'.written

-- Memory ran out. Nothing was put.
pub record RunsOutJudging (name : List ℕ) (old new : SourceView) (out out' : SinkView) : Type 0 where
  pub has : HasPages name old new
  pub nothing : out' ≡ out

-- The line was put and the command ended so, or the sink failed and a prefix of the line was put.
abbrev pub PutsLineAs : Ending → List ℕ → SinkView → SinkView → Ending → Type 0
PutsLineAs good line out out' ending =
    ((ending ≡ good) × Grows out.written line out'.written) ⊎ ((ending ≡ Failed Out) × Rose out.faults out'.faults × GrowsByFront out.written line out'.written)

-- what is put of an answer
abbrev pub PutsAnswer : Result Summary OpenFault → SinkView → SinkView → Ending → Type 0
PutsAnswer (Ok summary) out out' ending = PutsLineAs Done (verdict_line (accepting summary)) out out' ending
PutsAnswer (Err (opening.Refused found)) out out' ending = PutsLineAs RefusedOnOut (refused_line found) out out' ending
PutsAnswer (Err opening.Source) out out' ending = (ending ≡ Failed Source) × (out' ≡ out)
PutsAnswer (Err opening.Memory) out out' ending = (ending ≡ Failed Memory) × (out' ≡ out)

abbrev pub ChecksFile : List ℕ → SourceView → SourceView → SinkView → SinkView → Ending → Type 0
ChecksFile name old new out out' Done = (summary : Summary) × PutsVerdict name (accepting summary) old new out out'
ChecksFile name old new out out' RefusedOnOut = (found : Fault) × PutsVerdict name (refused found) old new out out'
ChecksFile name old new out out' (RefusedSecond found) = ⊥
ChecksFile name old new out out' (Failed (Refused found)) = ⊥
ChecksFile name old new out out' (Failed Source) = LosesSource name old new out out'
ChecksFile name old new out out' (Failed Out) = LosesVerdict name old new out out'
ChecksFile name old new out out' (Failed Memory) = RunsOutJudging name old new out out'
ChecksFile name old new out out' (Failed (Ask why)) = ⊥

-- The source has the file, and it is accepted.
abbrev pub HasAcceptedFile : List ℕ → Outside → Type 0
HasAcceptedFile name before = (file : List ℕ) × (stocked before.source name ≡ Some file) × ((summary : Summary) × IsVerdict file (accepting summary))

abbrev pub check_promise : List ℕ → Promise
check_promise name =
    record {
      ends = λ before after ending. ChecksFile name before.source after.source before.out after.out ending;
      is_ready = HasAcceptedFile name;
      takes_memory = true;
      opens = OneFile;
      writes = false;
    }

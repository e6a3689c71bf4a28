-- A command that reads one file and puts its output in pieces, up to a fault that stops it, or is asked for what the file
-- doesn't have: how it ends.
use Rattle.std.specs.Prelude.{◌≡◌, ◌⊎◌, ℕ, List, true, false, Some, None, IfSome}
use Rattle.e57_base.specs.Count.{Rose}
use Rattle.e57_base.specs.Source.{SourceView}
use Rattle.e57_base.specs.Opening.{OpensOnce, IsOpen}
use Rattle.e57_base.specs.Sink.{SinkView}
use Rattle.e57_base.specs.declared.fault.Fault.{Fault}
use Rattle.e57_base.specs.declared.fault.AskFault.{AskFault}
use Rattle.e57_base.specs.declared.fault.RunFault.TheVariants.{Refused, Source, Out, Memory, Ask}
use Rattle.e57_page.specs.File.{length_fault, opening_fault}
use Rattle.e57_page.specs.Pages.{is_opening_kind}
use Rattle.e57_show.specs.Streaming.{Streamed, IsWhole, PutsAll, PutsFront, PutsSome, PutsBeforeMemory}
use Rattle.e57_tool.specs.declared.ending.Ending.{Ending}
use Rattle.e57_tool.specs.declared.ending.Ending.TheVariants.{Done, RefusedOnOut, RefusedSecond, Failed}
use Rattle.e57_tool.specs.Outside.{Outside}
use Rattle.e57_tool.specs.FileAnswer.{PageRule, stocked}
use Rattle.e57_tool.specs.Show.{HasTextPlace}
use Rattle.e57_tool.specs.Run.{Promise, OneFile}

-- the first fault of the length, the header, page 0, and then the one that is found before anything is put
abbrev pub IsEarlyFault : Streamed → List ℕ → Fault → Type 0
IsEarlyFault streamed file found = (opening_fault file ≡ Some found) ⊎ ((opening_fault file ≡ None) × streamed.is_faulty file found)

-- The file has no fault that the command names, and has what is asked for.
pub record IsWholeFile (streamed : Streamed) (file : List ℕ) : Type 0 where
  pub opening : (found : Fault) → opening_fault file ≡ Some found → ⊥
  pub whole : IsWhole streamed file

-- the file of this name was opened once, and is open
pub record OpensFile (name : List ℕ) (old new : SourceView) : Type 0 where
  pub opens : OpensOnce old name new
  pub file : IsOpen old name new

-- The file is whole, and the whole output was put.
pub record CompletesPieces (streamed : Streamed) (name : List ℕ) (old new : SourceView) (out out' : SinkView) : Type 0 where
  pub source : OpensFile name old new
  pub sound : IfSome new.held (IsWholeFile streamed)
  pub wrote : PutsAll streamed new.held out out'

-- The file has this fault, which was found before anything was put.
pub record FindsEarlyFault (streamed : Streamed) (name : List ℕ) (old new : SourceView) (out out' : SinkView) (found : Fault) : Type 0 where
  pub source : OpensFile name old new
  pub first : IfSome new.held (λ file. IsEarlyFault streamed file found)
  pub kind : (is_opening_kind found.kind ≡ true) ⊎ (streamed.is_named found.kind ≡ true)
  pub nothing : out' ≡ out

-- The file has this fault, and the whole output was put up to there.
pub record FindsLateFault (streamed : Streamed) (name : List ℕ) (old new : SourceView) (out out' : SinkView) (found : Fault) : Type 0 where
  pub source : OpensFile name old new
  pub opened : IfSome new.held (λ file. opening_fault file ≡ None)
  pub first : IfSome new.held (λ file. streamed.is_late file found)
  pub kind : streamed.may_stop found.kind ≡ true
  pub wrote : PutsAll streamed new.held out out'

-- The source failed. Nothing was put, or a prefix of the output.
pub record LosesSourceMidway (streamed : Streamed) (name : List ℕ) (old new : SourceView) (out out' : SinkView) : Type 0 where
  pub opens : OpensOnce old name new
  pub cause : Rose old.faults new.faults
  pub wrote : PutsSome streamed new.held out out'

-- The sink failed. A prefix of the output was put.
pub record LosesOutMidway (streamed : Streamed) (name : List ℕ) (old new : SourceView) (out out' : SinkView) : Type 0 where
  pub source : OpensFile name old new
  pub opened : IfSome new.held (λ file. opening_fault file ≡ None)
  pub cause : Rose out.faults out'.faults
  pub wrote : PutsFront streamed new.held out out'

-- The file has whole pages, and its XML section has a place in it and is not too long.
pub record RunsOutMidway (streamed : Streamed) (name : List ℕ) (old new : SourceView) (out out' : SinkView) : Type 0 where
  pub source : OpensFile name old new
  pub whole : (size : ℕ) × (new.size ≡ Some size) × (length_fault size ≡ None)
  pub long : IfSome new.held HasTextPlace
  pub wrote : PutsBeforeMemory streamed.runs_out_midway streamed new.held out out'

-- The file has no fault that is named before the ask is judged, and doesn't have what is asked for. Nothing was put.
pub record RefusesAsk (streamed : Streamed) (name : List ℕ) (old new : SourceView) (out out' : SinkView) (why : AskFault) : Type 0 where
  pub source : OpensFile name old new
  pub opened : IfSome new.held (λ file. opening_fault file ≡ None)
  pub short : IfSome new.held (λ file. streamed.is_short file why)
  pub may : streamed.may_refuse why ≡ true
  pub nothing : out' ≡ out

abbrev pub AnswersInPieces : Streamed → List ℕ → SourceView → SourceView → SinkView → SinkView → Ending → Type 0
AnswersInPieces streamed name old new out out' Done = CompletesPieces streamed name old new out out'
AnswersInPieces streamed name old new out out' RefusedOnOut = ⊥
AnswersInPieces streamed name old new out out' (RefusedSecond found) = ⊥
AnswersInPieces streamed name old new out out' (Failed (Refused found)) = FindsEarlyFault streamed name old new out out' found ⊎ FindsLateFault streamed name old new out out' found
AnswersInPieces streamed name old new out out' (Failed Source) = LosesSourceMidway streamed name old new out out'
AnswersInPieces streamed name old new out out' (Failed Out) = LosesOutMidway streamed name old new out out'
AnswersInPieces streamed name old new out out' (Failed Memory) = RunsOutMidway streamed name old new out out'
AnswersInPieces streamed name old new out out' (Failed (Ask why)) = RefusesAsk streamed name old new out out' why

-- The source has the file, which is whole.
abbrev pub HasWholeFile : Streamed → List ℕ → Outside → Type 0
HasWholeFile streamed name before = (file : List ℕ) × (stocked before.source name ≡ Some file) × IsWholeFile streamed file

-- A command that answers so of the file of this name, and asks for pages by this rule.
pub record StreamsFile (streamed : Streamed) (rule : PageRule) (name : List ℕ) (old new : SourceView) (out out' : SinkView) (ending : Ending) : Type 0 where
  pub pages : rule old new ending
  pub answers : AnswersInPieces streamed name old new out out' ending

-- what it promises
abbrev pub streaming : Streamed → PageRule → List ℕ → Promise
streaming streamed rule name =
    record {
      ends = λ before after ending. StreamsFile streamed rule name before.source after.source before.out after.out ending;
      is_ready = HasWholeFile streamed name;
      takes_memory = true;
      opens = OneFile;
      writes = false;
    }

-- A command that reads one file and puts a text: how it ends, without a fault or with one.
use Rattle.std.specs.Prelude.{◌≡◌, ℕ, List, Bool, false, IsTrue, Option, Some, None, IfSome, option_and_then}
use Rattle.std.specs.FinMap.{get}
use Rattle.e57_base.specs.Count.{Rose}
use Rattle.e57_base.specs.Source.{SourceView}
use Rattle.e57_base.specs.Opening.{OpensOnce, IsOpen}
use Rattle.e57_base.specs.Sink.{SinkView, Grows, GrowsByFront}
use Rattle.e57_base.specs.declared.fault.Fault.{Fault}
use Rattle.e57_base.specs.declared.fault.RunFault.TheVariants.{Refused, Source, Out, Memory, Ask}
use Rattle.e57_base.specs.declared.kind.Kind.{Kind}
use Rattle.e57_page.specs.File.{length_fault}
use Rattle.e57_tool.specs.declared.ending.Ending.{Ending}
use Rattle.e57_tool.specs.declared.ending.Ending.TheVariants.{Done, RefusedOnOut, RefusedSecond, Failed}
use Rattle.e57_tool.specs.Outside.{Outside}
use Rattle.e57_tool.specs.Run.{Promise, OneFile}

-- what a command answers of a file
pub record FileAnswer : Type 1 where
  -- this is the first fault that it names, of one of these kinds
  pub is_faulty : List ℕ → Fault → Type 0
  pub is_named : Kind → Bool
  -- the file has no such fault, and this is then the whole output
  pub is_sound : List ℕ → Type 0
  pub is_output : List ℕ → List ℕ → Type 0
  -- whether it takes memory, and with which files that may run out
  pub takes_memory : Bool
  pub may_run_out : List ℕ → Type 0

-- The file has no fault that the command names, and its whole output was put.
pub record Completes (answer : FileAnswer) (name : List ℕ) (old new : SourceView) (out out' : SinkView) : Type 0 where
  pub opens : OpensOnce old name new
  pub file : IsOpen old name new
  pub sound : IfSome new.held answer.is_sound
  pub wrote : (text : List ℕ) × IfSome new.held (λ file. answer.is_output file text) × Grows out.written text out'.written

-- The file has this fault, of a kind that the command names. Nothing was put.
pub record FindsFault (answer : FileAnswer) (name : List ℕ) (old new : SourceView) (out out' : SinkView) (found : Fault) : Type 0 where
  pub opens : OpensOnce old name new
  pub file : IsOpen old name new
  pub first : IfSome new.held (λ file. answer.is_faulty file found)
  pub kind : IsTrue (answer.is_named found.kind)
  pub nothing : out' ≡ out

-- The source failed. Nothing was put.
pub record LosesSource (name : List ℕ) (old new : SourceView) (out out' : SinkView) : Type 0 where
  pub opens : OpensOnce old name new
  pub cause : Rose old.faults new.faults
  pub nothing : out' ≡ out

-- The file has no fault, and the sink failed. A prefix of the output was put.
pub record LosesOut (answer : FileAnswer) (name : List ℕ) (old new : SourceView) (out out' : SinkView) : Type 0 where
  pub opens : OpensOnce old name new
  pub file : IsOpen old name new
  pub sound : IfSome new.held answer.is_sound
  pub cause : Rose out.faults out'.faults
  pub wrote : (text : List ℕ) × IfSome new.held (λ file. answer.is_output file text) × GrowsByFront out.written text out'.written

-- The file has whole pages, and is one with which memory may run out. Nothing was put.
pub record RunsOut (answer : FileAnswer) (name : List ℕ) (old new : SourceView) (out out' : SinkView) : Type 0 where
  pub takes : IsTrue answer.takes_memory
  pub opens : OpensOnce old name new
  pub file : IsOpen old name new
  pub whole : (size : ℕ) × (new.size ≡ Some size) × (length_fault size ≡ None)
  pub long : IfSome new.held answer.may_run_out
  pub nothing : out' ≡ out

abbrev pub AnswersFile : FileAnswer → List ℕ → SourceView → SourceView → SinkView → SinkView → Ending → Type 0
AnswersFile answer name old new out out' Done = Completes answer name old new out out'
AnswersFile answer name old new out out' RefusedOnOut = ⊥
AnswersFile answer name old new out out' (RefusedSecond found) = ⊥
AnswersFile answer name old new out out' (Failed (Refused found)) = FindsFault answer name old new out out' found
AnswersFile answer name old new out out' (Failed Source) = LosesSource name old new out out'
AnswersFile answer name old new out out' (Failed Out) = LosesOut answer name old new out out'
AnswersFile answer name old new out out' (Failed Memory) = RunsOut answer name old new out out'
AnswersFile answer name old new out out' (Failed (Ask why)) = ⊥

-- the file that a told stock has under a name
abbrev pub stocked : SourceView → List ℕ → Option (List ℕ)
stocked source name = option_and_then (λ files. get files name) source.stock

-- The source has the file, and it has no fault that the command names.
abbrev pub HasSoundFile : FileAnswer → List ℕ → Outside → Type 0
HasSoundFile answer name before = (file : List ℕ) × (stocked before.source name ≡ Some file) × answer.is_sound file

-- what pages a command asks for, by the source before and after and the ending
abbrev pub PageRule : Type 1
PageRule = SourceView → SourceView → Ending → Type 0

-- A command that answers so of the file of this name, and asks for pages by this rule.
pub record ReadsFile (answer : FileAnswer) (rule : PageRule) (name : List ℕ) (old new : SourceView) (out out' : SinkView) (ending : Ending) : Type 0 where
  pub pages : rule old new ending
  pub answers : AnswersFile answer name old new out out' ending

-- what it promises
abbrev pub reading : FileAnswer → PageRule → List ℕ → Promise
reading answer rule name =
    record {
      ends = λ before after ending. ReadsFile answer rule name before.source after.source before.out after.out ending;
      is_ready = HasSoundFile answer name;
      takes_memory = answer.takes_memory;
      opens = OneFile;
      writes = false;
    }

-- A command that reads one file and writes another from it: how it ends.
use Rattle.std.specs.Prelude.{◌≡◌, ◌⊎◌, ℕ, List, true, None, Some, IfSome}
use Rattle.e57_base.specs.Count.{Rose}
use Rattle.e57_base.specs.Source.{SourceView}
use Rattle.e57_base.specs.Target.{TargetView}
use Rattle.e57_base.specs.Opening.{OpensOnce}
use Rattle.e57_base.specs.declared.fault.Fault.{Fault}
use Rattle.e57_base.specs.declared.fault.AskFault.{AskFault}
use Rattle.e57_base.specs.declared.fault.RunFault.TheVariants.{Refused, Source, Out, Memory, Ask}
use Rattle.e57_verdict.specs.Content.{Content, IsContent}
use Rattle.e57_verdict.specs.Verdict.{IsVerdict, refused}
use Rattle.e57_plain.specs.Written.{Fits}
use Rattle.e57_copy.specs.Rewriting.{Rewriting, Rewrites, LeavesPart, LeavesNew, BreaksNew, IsAskCause}
use Rattle.e57_tool.specs.declared.ending.Ending.{Ending}
use Rattle.e57_tool.specs.declared.ending.Ending.TheVariants.{Done, RefusedOnOut, RefusedSecond, Failed}
use Rattle.e57_tool.specs.Outside.{Outside}
use Rattle.e57_tool.specs.FileAnswer.{stocked}
use Rattle.e57_tool.specs.InPieces.{OpensFile}
use Rattle.e57_tool.specs.Check.{HasPages}
use Rattle.e57_tool.specs.Run.{Promise, OneFile}

-- what a target tells, by itself
abbrev pub told : TargetView → TargetView
told target = target

-- the target was not touched, or the new file was begun and not closed
abbrev pub LeavesUnclosed : List ℕ → TargetView → TargetView → Type 0
LeavesUnclosed made target now = LeavesNew told target made now

-- The file is open, and the new one was written from it.
pub record WritesAnew (r : Rewriting) (name made : List ℕ) (old new : SourceView) (target now : TargetView) : Type 0 where
  pub source : OpensFile name old new
  pub wrote : (total : ℕ) × Rewrites r new target made total now

-- The file has this first fault, and the target was not touched; or the fault was met later in a file that isn't told.
pub record RefusesOld (name made : List ℕ) (old new : SourceView) (target now : TargetView) (found : Fault) : Type 0 where
  pub source : OpensFile name old new
  pub cause : ((now ≡ target) × IfSome new.held (λ file. IsVerdict file (refused found))) ⊎ ((new.held ≡ None) × LeavesPart target made now)

-- The source failed.
pub record LosesOld (name made : List ℕ) (old new : SourceView) (target now : TargetView) : Type 0 where
  pub opens : OpensOnce old name new
  pub cause : Rose old.faults new.faults
  pub left : LeavesUnclosed made target now

-- The target failed.
pub record LosesNew (r : Rewriting) (name made : List ℕ) (old new : SourceView) (target now : TargetView) : Type 0 where
  pub source : OpensFile name old new
  pub cause : Rose target.faults now.faults
  pub left : BreaksNew r new target made now

-- Memory ran out.
pub record RunsOutRewriting (name made : List ℕ) (old new : SourceView) (target now : TargetView) : Type 0 where
  pub has : HasPages name old new
  pub left : LeavesUnclosed made target now

-- The file is accepted and doesn't have what is asked for, or the new file would pass the format's limits.
pub record RefusesAnew (r : Rewriting) (name made : List ℕ) (old new : SourceView) (target now : TargetView) (why : AskFault) : Type 0 where
  pub source : OpensFile name old new
  pub cause : IsAskCause told r new target made why now

abbrev pub RewritesFile : Rewriting → List ℕ → List ℕ → SourceView → SourceView → TargetView → TargetView → Ending → Type 0
RewritesFile r name made old new target now Done = WritesAnew r name made old new target now
RewritesFile r name made old new target now RefusedOnOut = ⊥
RewritesFile r name made old new target now (RefusedSecond found) = ⊥
RewritesFile r name made old new target now (Failed (Refused found)) = RefusesOld name made old new target now found
RewritesFile r name made old new target now (Failed Source) = LosesOld name made old new target now
RewritesFile r name made old new target now (Failed Out) = LosesNew r name made old new target now
RewritesFile r name made old new target now (Failed Memory) = RunsOutRewriting name made old new target now
RewritesFile r name made old new target now (Failed (Ask why)) = RefusesAnew r name made old new target now why

-- The file is accepted, what is asked for is there, and the new file is within the format's limits.
pub record IsRewritable (r : Rewriting) (file : List ℕ) : Type 0 where
  pub old : Content
  pub of_file : IsContent file old
  pub there : (why : AskFault) → r.is_short old why → ⊥
  pub content : Content
  pub gives : r.gives old content
  pub fits : Fits r.chunk content

-- The source has such a file.
abbrev pub HasRewritableFile : Rewriting → List ℕ → Outside → Type 0
HasRewritableFile r name before = (file : List ℕ) × (stocked before.source name ≡ Some file) × IsRewritable r file

-- The file was written anew so, and nothing was put on `out`.
pub record RewritesQuietly (r : Rewriting) (name made : List ℕ) (before after : Outside) (ending : Ending) : Type 0 where
  pub ends : RewritesFile r name made before.source after.source before.target after.target ending
  pub nothing : after.out ≡ before.out

-- what it promises
abbrev pub rewriting : Rewriting → List ℕ → List ℕ → Promise
rewriting r name made =
    record {
      ends = RewritesQuietly r name made;
      is_ready = HasRewritableFile r name;
      takes_memory = true;
      opens = OneFile;
      writes = true;
    }

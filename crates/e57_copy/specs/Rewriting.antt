-- A file written anew from an accepted one: what the new file holds, and what the target has where it was not written.
use Rattle.std.specs.Prelude.{◌≡◌, ◌⊎◌, ℕ, ◌≤◌, true, false, List, length, Option, Some, None, IfSome, MatchOption}
use Rattle.std.specs.Option.{option_map}
use Rattle.e57_base.specs.Count.{raised, Rose}
use Rattle.e57_base.specs.Source.{SourceView}
use Rattle.e57_base.specs.Target.{TargetView}
use Rattle.e57_base.specs.declared.fault.AskFault.{AskFault}
use Rattle.e57_base.specs.declared.fault.AskFault.TheVariants as of_ask
use Rattle.e57_base.specs.declared.fault.RunFault.{RunFault}
use Rattle.e57_base.specs.declared.fault.RunFault.TheVariants.{Refused, Source, Out, Memory, Ask}
use Rattle.e57_page_out.specs.Writing.{IsHeadless, IsNotBegun, IsUnfinished}
use Rattle.e57_verdict.specs.Content.{Content, IsContent}
use Rattle.e57_verdict.specs.Verdict.{IsVerdict, refused}
use Rattle.e57_plain.specs.Written.{Fits, IsWritable, plain}

-- how a file is written anew
pub record Rewriting : Type 1 where
  -- how many records a chunk of the new file has
  pub chunk : ℕ
  -- where an accepted file has this content, the new one is to have that
  pub gives : Content → Content → Type 0
  -- what is asked for isn't there in this content
  pub is_short : Content → AskFault → Type 0

-- The file is accepted, and the new one is to have this content.
pub record Gives (r : Rewriting) (file : List ℕ) (content : Content) : Type 0 where
  pub old : Content
  pub of_file : IsContent file old
  pub gives : r.gives old content

-- The file is accepted, and what is asked for isn't there.
pub record FallsShort (r : Rewriting) (file : List ℕ) (why : AskFault) : Type 0 where
  pub old : Content
  pub of_file : IsContent file old
  pub short : r.is_short old why

-- A file of this name was created.
pub record CreatesFile (old : TargetView) (name : List ℕ) (now : TargetView) : Type 0 where
  pub created : now.created ≡ raised old.created
  pub named : MatchOption now.named (Unit {0}) (λ given. given ≡ name)
  pub faults : old.faults ≤ now.faults

-- The new file was written: it is the written form of a content, and so accepted.
pub record Rewrites (r : Rewriting) (source : SourceView) (target : TargetView) (name : List ℕ) (answer : ℕ) (now : TargetView) : Type 0 where
  pub content : Content
  pub writable : IsWritable r.chunk content
  pub of_file : IfSome source.held (λ file. Gives r file content)
  pub held : now.held ≡ option_map (λ _. plain r.chunk content) target.held
  pub total : answer ≡ length (plain r.chunk content)
  pub ended : now.finished ≡ true
  pub creates : CreatesFile target name now

-- The new file was begun, and was not closed: what the target holds is no whole file.
pub record LeavesPart (old : TargetView) (name : List ℕ) (now : TargetView) : Type 0 where
  pub unended : now.finished ≡ false
  pub unfinished : IfSome now.held IsUnfinished
  pub creates : CreatesFile old name now

-- all is as in this whole file, but for page 0, of which each byte is 0 or that of the whole file
abbrev pub LacksHeader : List ℕ → Option (List ℕ) → Option (List ℕ) → Type 0
LacksHeader whole None now = now ≡ None
LacksHeader whole (Some bytes) None = ⊥
LacksHeader whole (Some bytes) (Some file) = IsHeadless whole file

-- All of the new file was put but its header, or a part of that.
pub record LeavesHeadless (r : Rewriting) (source : SourceView) (target : TargetView) (name : List ℕ) (now : TargetView) : Type 0 where
  pub content : Content
  pub writable : IsWritable r.chunk content
  pub of_file : IfSome source.held (λ file. Gives r file content)
  pub held : LacksHeader (plain r.chunk content) target.held now.held
  pub unended : now.finished ≡ false
  pub creates : CreatesFile target name now

-- the target failed: the new file wasn't created, or wasn't closed
abbrev pub BreaksNew : Rewriting → SourceView → TargetView → List ℕ → TargetView → Type 0
BreaksNew r source target name now = IsNotBegun target name now ⊎ LeavesPart target name now ⊎ LeavesHeadless r source target name now

-- the target was not touched, or the new file was begun and not closed
abbrev pub LeavesNew : {T : Type 0} → (T → TargetView) → T → List ℕ → T → Type 0
LeavesNew view target name now = (now ≡ target) ⊎ LeavesPart (view target) name (view now)

-- why an ask was refused: the written form of what is asked for isn't within the format's limits; or it isn't there, and then the
-- target was not touched
abbrev pub IsAskCause : {T : Type 0} → (T → TargetView) → Rewriting → SourceView → T → List ℕ → AskFault → T → Type 0
IsAskCause view r source target name of_ask.Large now =
    LeavesPart (view target) name (view now) × IfSome source.held (λ file. (content : Content) × Gives r file content × (Fits r.chunk content → ⊥))
IsAskCause view r source target name why now = (now ≡ target) × IfSome source.held (λ file. FallsShort r file why)

-- Why the new file was not written: the file's first fault, and then the target was not touched, or a fault that was met
-- later in a file that isn't told; the source or the target failed; memory ran out; or the ask was refused.
abbrev pub RewritesNot : {T : Type 0} → (T → TargetView) → Rewriting → SourceView → SourceView → T → List ℕ → RunFault → T → Type 0
RewritesNot view r source after target name (Refused found) now =
    ((now ≡ target) × IfSome source.held (λ file. IsVerdict file (refused found))) ⊎ ((source.held ≡ None) × LeavesPart (view target) name (view now))
RewritesNot view r source after target name Source now = Rose source.faults after.faults × LeavesNew view target name now
RewritesNot view r source after target name Out now = Rose (view target).faults (view now).faults × BreaksNew r source (view target) name (view now)
RewritesNot view r source after target name Memory now = LeavesNew view target name now
RewritesNot view r source after target name (Ask why) now = IsAskCause view r source target name why now

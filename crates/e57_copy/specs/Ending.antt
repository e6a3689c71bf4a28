-- A new file that is begun and written to its end, or not: whatever its content is made of.
use Rattle.std.specs.Prelude.{◌≡◌, ◌⊎◌, ℕ, true, false, List, length}
use Rattle.std.specs.Option.{option_map}
use Rattle.e57_base.specs.Count.{Rose}
use Rattle.e57_base.specs.Target.{TargetView}
use Rattle.e57_base.specs.declared.fault.AskFault.{AskFault}
use Rattle.e57_base.specs.declared.fault.AskFault.TheVariants as of_ask
use Rattle.e57_base.specs.declared.fault.RunFault.{RunFault}
use Rattle.e57_base.specs.declared.fault.RunFault.TheVariants.{Refused, Source, Out, Memory, Ask}
use Rattle.e57_page_out.specs.Sequences.{Leaves}
use Rattle.e57_page_out.specs.Writing.{Writing, KeepsTarget, IsNotBegun}
use Rattle.e57_verdict.specs.Content.{Content}
use Rattle.e57_plain.specs.Written.{IsWritable, plain}
use Rattle.e57_copy.specs.Rewriting.{CreatesFile, LacksHeader, LeavesPart}

-- what is to be written, and why it may not be
pub record Aim : Type 1 where
  -- how many records a chunk has
  pub chunk : ℕ
  -- the new file is to have this content
  pub is : Content → Type 0
  -- what it is made of has a fault
  pub refused : Type 0
  -- a source of it failed
  pub failed : Type 0
  -- its written form isn't within the format's limits
  pub large : Type 0

abbrev pub IsLarge : Aim → AskFault → Type 0
IsLarge aim of_ask.Large = aim.large
IsLarge aim why = ⊥

-- ---- behind page 0

-- All was put, and the file was closed.
pub record EndsFile {T : Type 0} (view : T → TargetView) (aim : Aim) (out : Writing T) (answer : ℕ) (now : TargetView) : Type 0 where
  pub content : Content
  pub is : aim.is content
  pub writable : IsWritable aim.chunk content
  pub held : now.held ≡ option_map (λ _. plain aim.chunk content) out.told_bytes
  pub total : answer ≡ length (plain aim.chunk content)
  pub ended : now.finished ≡ true
  pub target : KeepsTarget (view out.target) now

-- All was put but the header, or a part of that.
pub record StaysHeadless {T : Type 0} (view : T → TargetView) (aim : Aim) (out : Writing T) (now : TargetView) : Type 0 where
  pub content : Content
  pub is : aim.is content
  pub writable : IsWritable aim.chunk content
  pub held : LacksHeader (plain aim.chunk content) out.told_bytes now.held
  pub unended : now.finished ≡ false
  pub target : KeepsTarget (view out.target) now

-- why the file was not closed
abbrev pub EndsNot : {T : Type 0} → (T → TargetView) → Aim → Writing T → RunFault → TargetView → Type 0
EndsNot view aim out (Refused found) now = Leaves view out now × aim.refused
EndsNot view aim out Source now = aim.failed × Leaves view out now
EndsNot view aim out Out now = Rose (view out.target).faults now.faults × (Leaves view out now ⊎ StaysHeadless view aim out now)
EndsNot view aim out Memory now = Leaves view out now
EndsNot view aim out (Ask why) now = Leaves view out now × IsLarge aim why

-- ---- the whole file

-- The new file was written: it is the written form of a content, and so accepted.
pub record WritesFile (aim : Aim) (target : TargetView) (name : List ℕ) (answer : ℕ) (now : TargetView) : Type 0 where
  pub content : Content
  pub is : aim.is content
  pub writable : IsWritable aim.chunk content
  pub held : now.held ≡ option_map (λ _. plain aim.chunk content) target.held
  pub total : answer ≡ length (plain aim.chunk content)
  pub ended : now.finished ≡ true
  pub creates : CreatesFile target name now

-- All of it was put but its header, or a part of that.
pub record LacksEnd (aim : Aim) (target : TargetView) (name : List ℕ) (now : TargetView) : Type 0 where
  pub content : Content
  pub is : aim.is content
  pub writable : IsWritable aim.chunk content
  pub held : LacksHeader (plain aim.chunk content) target.held now.held
  pub unended : now.finished ≡ false
  pub creates : CreatesFile target name now

-- the target failed: the new file wasn't created, or wasn't closed
abbrev pub BreaksFile : Aim → TargetView → List ℕ → TargetView → Type 0
BreaksFile aim target name now = IsNotBegun target name now ⊎ LeavesPart target name now ⊎ LacksEnd aim target name now

-- why it was not written
abbrev pub WritesNoFile : Aim → TargetView → List ℕ → RunFault → TargetView → Type 0
WritesNoFile aim target name (Refused found) now = LeavesPart target name now × aim.refused
WritesNoFile aim target name Source now = aim.failed × LeavesPart target name now
WritesNoFile aim target name Out now = Rose target.faults now.faults × BreaksFile aim target name now
WritesNoFile aim target name Memory now = LeavesPart target name now
WritesNoFile aim target name (Ask why) now = LeavesPart target name now × IsLarge aim why

-- The content of two numbers written as a new file: what the target then holds.
use Rattle.std.specs.Prelude.{◌≡◌, ◌⊎◌, ℕ, []}
use Rattle.e57_base.specs.Count.{Rose}
use Rattle.e57_base.specs.Target.{TargetView}
use Rattle.e57_base.specs.declared.fault.WriteFault.{WriteFault}
use Rattle.e57_base.specs.declared.fault.WriteFault.TheVariants.{Target, Large, Memory}
use Rattle.e57_copy.specs.Ending.{Aim, BreaksFile, WritesFile}
use Rattle.e57_copy.specs.Rewriting.{LeavesPart}
use Rattle.e57_trial.specs.Content.{trial_content}

-- The content is to be written with chunks of so many records. Nothing else can be at fault.
abbrev pub trial_aim : ℕ → ℕ → ℕ → Aim
trial_aim chunk start count = record {
  chunk = chunk;
  is = λ content. content ≡ trial_content start count;
  refused = ⊥;
  failed = ⊥;
  large = ⊥;
}

-- The new file is the written form of the content, which is accepted, and has this length.
abbrev pub WritesTrial : ℕ → ℕ → ℕ → TargetView → ℕ → TargetView → Type 0
WritesTrial chunk start count target answer now = WritesFile (trial_aim chunk start count) target [] answer now

-- Why it was not written: the target failed, and the new file wasn't created, or wasn't closed; or memory ran out, and the target
-- wasn't touched, or the new file was begun and not closed.
abbrev pub WritesNoTrial : {T : Type 0} → (T → TargetView) → ℕ → ℕ → ℕ → T → WriteFault → T → Type 0
WritesNoTrial view chunk start count target Target now =
    Rose (view target).faults (view now).faults × BreaksFile (trial_aim chunk start count) (view target) [] (view now)
WritesNoTrial view chunk start count target Large now = ⊥
WritesNoTrial view chunk start count target Memory now = (now ≡ target) ⊎ LeavesPart (view target) [] (view now)

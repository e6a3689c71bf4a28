-- Several calls in a row that write one file, as their writers' contracts see them (ASTM E2807, physical layout).
use Rattle.std.specs.Prelude.{◌≡◌, ℕ, ◌+◌, false, List, ◌++◌, length, IfSome}
use Rattle.std.specs.Option.{option_map}
use Rattle.e57_base.specs.Count.{Rose}
use Rattle.e57_base.specs.Target.{TargetView}
use Rattle.e57_base.specs.declared.fault.PutFault.{PutFault}
use Rattle.e57_base.specs.declared.fault.PutFault.TheVariants.{Target, Large}
use Rattle.e57_page_out.specs.Writing.{Writing, Writes, KeepsTarget, IsUnfinished}

-- These bytes were put behind those that were put before.
abbrev pub Puts : {T : Type 0} → (T → TargetView) → Writing T → List ℕ → Writing T → Type 0
Puts view old piece new = Writes view old (option_map (λ b. b ++ piece) old.told_bytes) (old.size + length piece) old.held new

-- The file was not closed: what the target holds is no whole file, and no other file was created.
pub record Leaves {T : Type 0} (view : T → TargetView) (old : Writing T) (now : TargetView) : Type 0 where
  pub unended : now.finished ≡ false
  pub unfinished : IfSome now.held IsUnfinished
  pub target : KeepsTarget (view old.target) now

-- Why not all bytes were put: the target failed, or they are too many, as `past` says. The file was not closed.
abbrev pub Loses : {T : Type 0} → (T → TargetView) → Writing T → Type 0 → PutFault → TargetView → Type 0
Loses view old past Target now = Leaves view old now × Rose (view old.target).faults now.faults
Loses view old past Large now = Leaves view old now × past

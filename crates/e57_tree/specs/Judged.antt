-- What judging a tree answers.
use Rattle.std.specs.Prelude.{◌≡◌, ℕ, Bool, true, false, List, Option, Some, None, Result, Ok, Err}
use Rattle.e57_base.specs.declared.fault.Fault.{Fault}
use Rattle.e57_base.specs.declared.fault.TextFault.{TextFault}
use Rattle.e57_base.specs.declared.fault.TextFault.TheVariants.{Refused, Memory}
use Rattle.e57_tree.specs.declared.names.Names.{Names}
use Rattle.e57_tree.specs.Names.{number_of, Notes}

-- there is no fault; or it is refused with the fault, unless memory runs out
abbrev pub IsJudged : {T : Type 0} → Result T TextFault → Option Fault → Type 0
IsJudged (Ok x) fault = fault ≡ None
IsJudged (Err (Refused found)) fault = fault ≡ Some found
IsJudged (Err Memory) fault = Unit {0}

-- the number of an earlier child of this name, where names differ
abbrev pub namesake_in : Names → Bool → List ℕ → Option ℕ
namesake_in names false name = None
namesake_in names true name = number_of names name

-- a child's name is noted, where names differ
abbrev pub NotesChild : Names → Names → Bool → List ℕ → ℕ → Type 0
NotesChild old new false name child = new ≡ old
NotesChild old new true name child = Notes old new name child

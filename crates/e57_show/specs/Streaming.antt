-- How a command ends that puts its output in pieces, and is asked for what the file may not have.
use Rattle.std.specs.Prelude.{◌≡◌, ◌⊎◌, ℕ, Bool, true, false, List, Option, Some, None, IfSome}
use Rattle.e57_base.specs.Count.{Rose}
use Rattle.e57_base.specs.Source.{SourceView}
use Rattle.e57_base.specs.Sink.{SinkView, Grows, GrowsByFront}
use Rattle.e57_base.specs.declared.fault.Fault.{Fault}
use Rattle.e57_base.specs.declared.fault.AskFault.{AskFault}
use Rattle.e57_base.specs.declared.fault.RunFault.{RunFault}
use Rattle.e57_base.specs.declared.fault.RunFault.TheVariants.{Refused, Source, Out, Memory, Ask}
use Rattle.e57_base.specs.declared.kind.Kind.{Kind}

-- what is put of a file in pieces
pub record Streamed : Type 1 where
  -- this is the first fault past page 0 that is named before anything is put, of one of these kinds
  pub is_faulty : List ℕ → Fault → Type 0
  pub is_named : Kind → Bool
  -- the file doesn't have this, which is asked for, and no other ask can be refused
  pub is_short : List ℕ → AskFault → Type 0
  pub may_refuse : AskFault → Bool
  -- this fault stops the output, and is of one of these kinds
  pub is_late : List ℕ → Fault → Type 0
  pub may_stop : Kind → Bool
  -- this is the whole output, up to the fault that stops it
  pub is_output : List ℕ → List ℕ → Type 0
  -- whether memory may run out between two pieces
  pub runs_out_midway : Bool

-- The file has no fault that is named, and has what is asked for.
pub record IsWhole (streamed : Streamed) (file : List ℕ) : Type 0 where
  pub early : (found : Fault) → streamed.is_faulty file found → ⊥
  pub late : (found : Fault) → streamed.is_late file found → ⊥
  pub there : (why : AskFault) → streamed.is_short file why → ⊥

-- The whole output was put, up to a fault that stops it.
abbrev pub PutsAll : Streamed → Option (List ℕ) → SinkView → SinkView → Type 0
PutsAll streamed held out out' = (text : List ℕ) × IfSome held (λ file. streamed.is_output file text) × Grows out.written text out'.written

-- A prefix of the output was put.
abbrev pub PutsFront : Streamed → Option (List ℕ) → SinkView → SinkView → Type 0
PutsFront streamed held out out' = (text : List ℕ) × IfSome held (λ file. streamed.is_output file text) × GrowsByFront out.written text out'.written

-- Nothing was put, or a prefix of the output.
abbrev pub PutsSome : Streamed → Option (List ℕ) → SinkView → SinkView → Type 0
PutsSome streamed held out out' = (out' ≡ out) ⊎ PutsFront streamed held out out'

-- what was put when memory ran out
abbrev pub PutsBeforeMemory : Bool → Streamed → Option (List ℕ) → SinkView → SinkView → Type 0
PutsBeforeMemory false streamed held out out' = out' ≡ out
PutsBeforeMemory true streamed held out out' = PutsSome streamed held out out'

-- The file has a fault that is named before anything is put.
abbrev pub FindsEarly : Streamed → Option (List ℕ) → SinkView → SinkView → Fault → Type 0
FindsEarly streamed held out out' found = (streamed.is_named found.kind ≡ true) × IfSome held (λ file. streamed.is_faulty file found) × (out' ≡ out)

-- The file has a fault that stops the output, and the whole output was put up to there.
abbrev pub FindsLate : Streamed → Option (List ℕ) → SinkView → SinkView → Fault → Type 0
FindsLate streamed held out out' found = (streamed.may_stop found.kind ≡ true) × IfSome held (λ file. streamed.is_late file found) × PutsAll streamed held out out'

abbrev pub StreamEnds : Streamed → SourceView → SourceView → SinkView → SinkView → Option RunFault → Type 0
StreamEnds streamed old new out out' None = IfSome old.held (IsWhole streamed) × PutsAll streamed old.held out out'
StreamEnds streamed old new out out' (Some (Refused found)) = FindsEarly streamed old.held out out' found ⊎ FindsLate streamed old.held out out' found
StreamEnds streamed old new out out' (Some Source) = Rose old.faults new.faults × PutsSome streamed old.held out out'
StreamEnds streamed old new out out' (Some Out) = Rose out.faults out'.faults × PutsFront streamed old.held out out'
StreamEnds streamed old new out out' (Some Memory) = PutsBeforeMemory streamed.runs_out_midway streamed old.held out out'
StreamEnds streamed old new out out' (Some (Ask why)) = (streamed.may_refuse why ≡ true) × IfSome old.held (λ file. streamed.is_short file why) × (out' ≡ out)

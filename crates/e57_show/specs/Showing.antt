-- How a command ends that shows an open file, without a fault or with one.
use Rattle.std.specs.Prelude.{◌≡◌, ℕ, Bool, true, List, Option, Some, None, IfSome}
use Rattle.e57_base.specs.Count.{Rose}
use Rattle.e57_base.specs.Source.{SourceView}
use Rattle.e57_base.specs.Sink.{SinkView, Grows, GrowsByFront}
use Rattle.e57_base.specs.declared.fault.Fault.{Fault}
use Rattle.e57_base.specs.declared.fault.RunFault.{RunFault}
use Rattle.e57_base.specs.declared.fault.RunFault.TheVariants.{Refused, Source, Out, Memory, Ask}
use Rattle.e57_base.specs.declared.kind.Kind.{Kind}

-- what is shown of a file
pub record Shown : Type 1 where
  -- this is the first fault past page 0 that is named, of one of these kinds
  pub is_faulty : List ℕ → Fault → Type 0
  pub is_named : Kind → Bool
  -- this is the whole output for a file without such a fault
  pub is_output : List ℕ → List ℕ → Type 0

-- The file has no fault that is named.
abbrev pub HasNoFault : Shown → List ℕ → Type 0
HasNoFault shown file = (found : Fault) → shown.is_faulty file found → ⊥

-- The file has no fault that is named, and this is the whole output.
pub record ShowsText (shown : Shown) (old : SourceView) (text : List ℕ) : Type 0 where
  pub sound : IfSome old.held (HasNoFault shown)
  pub output : IfSome old.held (λ file. shown.is_output file text)

-- The whole output was put; or nothing, but a prefix of the output where the sink failed.
abbrev pub ShowEnds : Shown → SourceView → SourceView → SinkView → SinkView → Option RunFault → Type 0
ShowEnds shown old new out out' None = (text : List ℕ) × ShowsText shown old text × Grows out.written text out'.written
ShowEnds shown old new out out' (Some (Refused found)) = (shown.is_named found.kind ≡ true) × IfSome old.held (λ file. shown.is_faulty file found) × (out' ≡ out)
ShowEnds shown old new out out' (Some Source) = Rose old.faults new.faults × (out' ≡ out)
ShowEnds shown old new out out' (Some Out) = (text : List ℕ) × ShowsText shown old text × Rose out.faults out'.faults × GrowsByFront out.written text out'.written
ShowEnds shown old new out out' (Some Memory) = out' ≡ out
ShowEnds shown old new out out' (Some (Ask asked)) = ⊥

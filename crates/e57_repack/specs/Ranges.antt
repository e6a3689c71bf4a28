-- The least and the greatest items of the integer fields of a file.
use Rattle.std.specs.Prelude.{◌≡◌, ℕ, List, length, Option, IfSome}
use Rattle.e57_base.specs.Count.{Rose}
use Rattle.e57_base.specs.Source.{SourceView}
use Rattle.e57_base.specs.declared.fault.OpenFault.{OpenFault}
use Rattle.e57_base.specs.declared.fault.OpenFault.TheVariants.{Refused, Source, Memory}
use Rattle.e57_elements.specs.Tree.{Element}
use Rattle.e57_verdict.specs.Things.{things_in}
use Rattle.e57_plain.specs.Tight.{range_in}
use Rattle.e57_edits.specs.declared.limits.Range.{Range}
use Rattle.e57_edits.specs.Ranges.{range_at, AreOrdered, AreSigned}
use Rattle.e57_check.specs.Asking.{AsksWhere}
use Rattle.e57_copy.specs.Several.{content_in, AreSound}

-- They are limits: one entry for each of so many nodes, a signed number of 64 bits, and one that isn't below it.
pub record AreLimits (nodes : ℕ) (ranges : List (Option Range)) : Type 0 where
  pub all : length ranges ≡ nodes
  pub ordered : AreOrdered ranges
  pub signed : AreSigned ranges

-- Each entry is the least and the greatest item of its node, where the file has no fault.
pub record FindsRanges (e : Element) (count : ℕ) (old : SourceView) (ranges : List (Option Range)) (new : SourceView) : Type 0 where
  pub source : AsksWhere (λ file. Unit {0}) count old new
  pub of_file : IfSome old.held (λ file. AreSound (things_in e) file → (n : ℕ) → range_at ranges n ≡ range_in (content_in file e) n)

-- why they were not found: the file has a fault, the source failed, or memory ran out
abbrev pub IsRangesCause : Element → SourceView → OpenFault → SourceView → Type 0
IsRangesCause e old (Refused found) new = IfSome old.held (λ file. AreSound (things_in e) file → ⊥)
IsRangesCause e old Source new = Rose old.faults new.faults
IsRangesCause e old Memory new = Unit {0}

pub record FindsNoRanges (e : Element) (count : ℕ) (old : SourceView) (fault : OpenFault) (new : SourceView) : Type 0 where
  pub source : AsksWhere (λ file. Unit {0}) count old new
  pub cause : IsRangesCause e old fault new

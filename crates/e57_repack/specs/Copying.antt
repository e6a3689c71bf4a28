-- Items of a file that are copied into a new one, one after another.
use Rattle.std.specs.Prelude.{◌≡◌, ℕ, List, [], ◌∷◌, IfSome}
use Rattle.e57_base.specs.Count.{Rose}
use Rattle.e57_base.specs.Source.{SourceView}
use Rattle.e57_base.specs.Target.{TargetView}
use Rattle.e57_base.specs.declared.fault.AskFault.{AskFault}
use Rattle.e57_base.specs.declared.fault.AskFault.TheVariants as of_ask
use Rattle.e57_base.specs.declared.fault.RunFault.{RunFault}
use Rattle.e57_base.specs.declared.fault.RunFault.TheVariants.{Refused, Source, Out, Memory, Ask}
use Rattle.e57_page_out.specs.Sequences.{Leaves}
use Rattle.e57_page_out.specs.Writing.{Writing}
use Rattle.e57_nodes.specs.Items.{StatedItem}
use Rattle.e57_verdict.specs.Things.{Body, Thing}
use Rattle.e57_plain.specs.Valid.{AreBodies}
use Rattle.e57_check.specs.Asking.{AsksWhere}
use Rattle.e57_copy.specs.Items.{IsAlikeItem}
use Rattle.e57_copy.specs.Several.{bodies_in, AreSound, PassesFirst, PutsItems}

-- as many items, and each is the same but for the limits of its integer fields
abbrev pub AreAlikeItems : List StatedItem → List StatedItem → Type 0
AreAlikeItems [] [] = Unit {0}
AreAlikeItems [] (other ∷ others) = ⊥
AreAlikeItems (item ∷ items) [] = ⊥
AreAlikeItems (item ∷ items) (other ∷ others) = IsAlikeItem item other × AreAlikeItems items others

-- The items were copied: what they have in the file, where none has a fault.
pub record CopiesItems {T : Type 0} (view : T → TargetView) (n : ℕ) (items : List StatedItem) (things : List Thing) (count : ℕ) (old new : SourceView) (out : Writing T) (offsets : List ℕ) (out' : Writing T) : Type 0 where
  pub source : AsksWhere (λ file. Unit {0}) count old new
  pub bodies : List Body
  pub are_bodies : AreBodies items bodies
  pub of_file : IfSome old.held (λ file. AreSound things file → bodies ≡ bodies_in file things)
  pub puts : PutsItems view n items bodies out offsets out'

-- with the first ones of their sections the file would pass its last page
abbrev pub PassesItems : {T : Type 0} → ℕ → List StatedItem → List Thing → SourceView → Writing T → AskFault → Type 0
PassesItems n items things old out of_ask.Large =
    IfSome old.held (λ file. AreSound things file → AreBodies items (bodies_in file things) → PassesFirst n out.size items (bodies_in file things))
PassesItems n items things old out why = ⊥

-- Why not: one or a page has a fault in the file, or there is a value outside of the stated limits; the source or the target failed; memory ran out;
-- or the new file would be too large.
abbrev pub IsItemsCause : {T : Type 0} → (T → TargetView) → ℕ → List StatedItem → List Thing → SourceView → SourceView → Writing T → RunFault → Writing T → Type 0
IsItemsCause view n items things old new out (Refused found) out' = IfSome old.held (λ file. AreSound things file → AreBodies items (bodies_in file things) → ⊥)
IsItemsCause view n items things old new out Source out' = Rose old.faults new.faults
IsItemsCause view n items things old new out Out out' = Rose (view out.target).faults (view out'.target).faults
IsItemsCause view n items things old new out Memory out' = Unit {0}
IsItemsCause view n items things old new out (Ask why) out' = PassesItems n items things old out why

-- They were not all copied. What the target holds is no whole file.
pub record LosesItems {T : Type 0} (view : T → TargetView) (n : ℕ) (items : List StatedItem) (things : List Thing) (count : ℕ) (old new : SourceView) (out : Writing T) (fault : RunFault) (out' : Writing T) : Type 0 where
  pub source : AsksWhere (λ file. Unit {0}) count old new
  pub left : Leaves view out (view out'.target)
  pub cause : IsItemsCause view n items things old new out fault out'

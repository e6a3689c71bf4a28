-- What is put behind page 0 of a file that is written anew.
use Rattle.std.proofs.Common.{◌≡◌, inl, ℕ, ◌<◌, List, length, IfSome, refl, subst}
use Rattle.e57_base.proofs.Told.{told_map}
use Rattle.e57_base.specs.Fault.{write_as_run}
use Rattle.e57_base.specs.Source.{SourceView}
use Rattle.e57_base.specs.Target.{TargetView}
use Rattle.e57_base.specs.declared.fault.AskFault.{AskFault}
use Rattle.e57_base.specs.declared.fault.AskFault.TheVariants as of_ask
use Rattle.e57_base.specs.declared.fault.RunFault.{RunFault}
use Rattle.e57_base.specs.declared.fault.RunFault.TheVariants.{Refused, Source, Out, Memory, Ask}
use Rattle.e57_base.specs.declared.fault.WriteFault.{WriteFault}
use Rattle.e57_page_out.specs.Writing.{Writing}
use Rattle.e57_elements.specs.Tree.{Element}
use Rattle.e57_nodes.specs.Items.{stated_items}
use Rattle.e57_nodes.specs.Shape.{shape_of}
use Rattle.e57_verdict.specs.Things.{Body, Thing}
use Rattle.e57_plain.specs.Valid.{AreBodies}
use Rattle.e57_plain.specs.Written.{Fits}
use Rattle.e57_file_out.specs.Closing.{ClosesFile, LeavesFile, xml_text}
use Rattle.e57_copy.specs.Ending.{EndsFile, EndsNot, IsLarge}
use Rattle.e57_copy.specs.Several.{bodies_in, content_with, AreSound, PassesFirst}
use Rattle.e57_copy.proofs.Closing.{file-closed, file-not-closed, unfit-first}
use Rattle.e57_copy.proofs.OneTree.{IsGoodTree}
use Rattle.e57_repack.specs.Anew.{copied}
use Rattle.e57_repack.specs.Copying.{CopiesItems, LosesItems, PassesItems}

pub file-ended : {T : Type 0} (view : T → TargetView) (n count : ℕ) (d : Element) (things : List Thing) (old new : SourceView) (a b c : Writing T) (offsets : List ℕ) (total : ℕ) → IsGoodTree d → 0 < n
    → a.size ≡ 1020 → IfSome a.told_bytes (λ bytes. length bytes ≡ a.size) → CopiesItems view n (stated_items (shape_of d)) things count old new a offsets b → ClosesFile view b (xml_text d offsets) total c
    → EndsFile view (copied n d things old new) a total (view c.target)
file-ended view n count d things old new a b c offsets total good some begun size first closed =
    file-closed view (copied n d things old new) d first.bodies a b c offsets total good some begun size first.puts first.are_bodies (record { same_tree = refl; of_file = first.of_file }) closed

pub file-not-ended : {T : Type 0} (view : T → TargetView) (n count : ℕ) (d : Element) (things : List Thing) (old new : SourceView) (a b c : Writing T) (offsets : List ℕ) (fault : WriteFault) → IsGoodTree d → 0 < n
    → a.size ≡ 1020 → IfSome a.told_bytes (λ bytes. length bytes ≡ a.size) → CopiesItems view n (stated_items (shape_of d)) things count old new a offsets b
    → LeavesFile view b (xml_text d offsets) fault (view c.target) → EndsNot view (copied n d things old new) a (write_as_run fault) (view c.target)
file-not-ended view n count d things old new a b c offsets fault good some begun size first left =
    file-not-closed view (copied n d things old new) d first.bodies a b c offsets fault good some begun size first.puts first.are_bodies (record { same_tree = refl; of_file = first.of_file })
    (λ unfit. told_map (λ file. AreSound things file → first.bodies ≡ bodies_in file things)
    (λ file. AreSound things file → AreBodies (stated_items (shape_of d)) (bodies_in file things) → Fits n (content_with d (bodies_in file things)) → ⊥) old.held
    (λ file is sound are. subst (λ (bodies : List Body). Fits n (content_with d bodies) → ⊥) (is sound) unfit) first.of_file)
    left

-- ---- items that were not copied

ask-cause : {T : Type 0} (n : ℕ) (d : Element) (things : List Thing) (old new : SourceView) (a : Writing T) (why : AskFault) → IsGoodTree d → a.size ≡ 1020
    → PassesItems n (stated_items (shape_of d)) things old a why → IsLarge (copied n d things old new) why
ask-cause n d things old new a of_ask.Large good begun passes =
    told_map (λ file. AreSound things file → AreBodies (stated_items (shape_of d)) (bodies_in file things) → PassesFirst n a.size (stated_items (shape_of d)) (bodies_in file things))
    (λ file. AreSound things file → AreBodies (stated_items (shape_of d)) (bodies_in file things) → Fits n (content_with d (bodies_in file things)) → ⊥) old.held
    (λ file first sound are. unfit-first n d (bodies_in file things) a.size good begun (first sound are)) passes
ask-cause n d things old new a why good begun passes = absurd passes

pub items-lost : {T : Type 0} (view : T → TargetView) (n count : ℕ) (d : Element) (things : List Thing) (old new : SourceView) (a b : Writing T) (fault : RunFault) → IsGoodTree d → a.size ≡ 1020
    → LosesItems view n (stated_items (shape_of d)) things count old new a fault b → EndsNot view (copied n d things old new) a fault (view b.target)
items-lost view n count d things old new a b (Refused found) good begun lost = (lost.left, lost.cause)
items-lost view n count d things old new a b Source good begun lost = (lost.cause, lost.left)
items-lost view n count d things old new a b Out good begun lost = (lost.cause, inl lost.left)
items-lost view n count d things old new a b Memory good begun lost = lost.left
items-lost view n count d things old new a b (Ask why) good begun lost = (lost.left, ask-cause n d things old new a why good begun lost.cause)

-- A file that is written anew with another tree: its items, copied one after another, the tree, and the header.
use Rattle.std.specs.Prelude.{◌≡◌, ℕ, List, Option, IfSome}
use Rattle.e57_base.specs.Count.{Rose}
use Rattle.e57_base.specs.Source.{SourceView}
use Rattle.e57_elements.specs.Tree.{Element}
use Rattle.e57_nodes.specs.Items.{stated_items}
use Rattle.e57_nodes.specs.Places.{without_places}
use Rattle.e57_nodes.specs.Shape.{shape_of}
use Rattle.e57_verdict.specs.Content.{Content}
use Rattle.e57_verdict.specs.Things.{Thing}
use Rattle.e57_plain.specs.Valid.{AreBodies}
use Rattle.e57_plain.specs.Written.{Fits}
use Rattle.e57_copy.specs.Ending.{Aim}
use Rattle.e57_copy.specs.Several.{bodies_in, content_with, AreSound}

-- The content has this tree, and what these clouds and blobs have in the file, where none has a fault.
pub record IsCopied (tree : Element) (things : List Thing) (held : Option (List ℕ)) (content : Content) : Type 0 where
  pub same_tree : content.tree ≡ without_places tree
  pub of_file : IfSome held (λ file. AreSound things file → content.bodies ≡ bodies_in file things)

-- Such a content is to be written. It isn't where an item or a page has a fault in the file, or there is a value outside of
-- the limits in the tree; where the file's source failed; or where the written form isn't within the format's limits.
abbrev pub copied : ℕ → Element → List Thing → SourceView → SourceView → Aim
copied n tree things source after = record {
  chunk = n;
  is = IsCopied tree things source.held;
  refused = IfSome source.held (λ file. AreSound things file → AreBodies (stated_items (shape_of tree)) (bodies_in file things) → ⊥);
  failed = Rose source.faults after.faults;
  large = IfSome source.held (λ file. AreSound things file → AreBodies (stated_items (shape_of tree)) (bodies_in file things)
      → Fits n (content_with tree (bodies_in file things)) → ⊥);
}

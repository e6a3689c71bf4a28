-- The content of an accepted file: what stays the same where its sections lie elsewhere.
use Rattle.std.specs.Prelude.{◌≡◌, ℕ, List, map}
use Rattle.e57_elements.specs.Tree.{Element}
use Rattle.e57_nodes.specs.Places.{without_places}
use Rattle.e57_verdict.specs.Things.{Body, body_of, things_in}
use Rattle.e57_verdict.specs.Verdict.{IsSoundFile}

-- the tree in which each cloud and blob has the `fileOffset` 0, and what each of them holds, in document order
pub record Content : Type 0 where
  pub tree : Element
  pub bodies : List Body

-- The file is accepted, and has this content.
pub record IsContent (file : List ℕ) (content : Content) : Type 0 where
  pub tree : Element
  pub is_sound : IsSoundFile file tree
  pub same_tree : content.tree ≡ without_places tree
  pub same_bodies : content.bodies ≡ map (body_of file) (things_in tree)

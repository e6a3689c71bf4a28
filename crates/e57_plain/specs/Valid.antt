-- Which contents are valid: those that some file can have.
use Rattle.std.specs.Prelude.{◌≡◌, List, [], ◌∷◌, length, None}
use Rattle.e57_elements.specs.Lawful.{IsLawful}
use Rattle.e57_layout.specs.declared.field.Field.{Field}
use Rattle.e57_layout.specs.Values.{ItemKind}
use Rattle.e57_layout.specs.Items.{AreColumns}
use Rattle.e57_cloud.specs.Cloud.{kinds_of}
use Rattle.e57_nodes.specs.Shape.{shape_of}
use Rattle.e57_nodes.specs.Typed.{typed_fault}
use Rattle.e57_nodes.specs.Items.{StatedItem, stated_cloud, stated_blob, stated_items, leaves_of}
use Rattle.e57_nodes.specs.Places.{without_places}
use Rattle.e57_verdict.specs.Things.{Body, records_body, bytes_body}
use Rattle.e57_verdict.specs.Content.{Content}

-- what the items of each field are
abbrev pub kinds_in : List Field → List ItemKind
kinds_in fields = kinds_of (leaves_of fields)

-- A cloud has as many records as it states, each item within its field's limits; a blob has as many bytes.
abbrev pub IsBody : StatedItem → Body → Type 0
IsBody (stated_cloud n count fields) (records_body columns) = AreColumns (kinds_in fields) count columns
IsBody (stated_cloud n count fields) (bytes_body bytes) = ⊥
IsBody (stated_blob n size) (records_body columns) = ⊥
IsBody (stated_blob n size) (bytes_body bytes) = length bytes ≡ size

-- one body for each item
abbrev pub AreBodies : List StatedItem → List Body → Type 0
AreBodies [] [] = Unit {0}
AreBodies [] (body ∷ bodies) = ⊥
AreBodies (item ∷ items) [] = ⊥
AreBodies (item ∷ items) (body ∷ bodies) = IsBody item body × AreBodies items bodies

-- the clouds and blobs of a content
abbrev pub items_in : Content → List StatedItem
items_in content = stated_items (shape_of content.tree)

-- The tree is lawful and none of its nodes has a fault; its clouds and blobs have the `fileOffset` 0, and hold these bodies.
pub record IsValid (content : Content) : Type 0 where
  pub is_lawful : IsLawful content.tree
  pub typed : typed_fault (shape_of content.tree) ≡ None
  pub no_places : without_places content.tree ≡ content.tree
  pub bodies : AreBodies (items_in content) content.bodies

-- What clouds and blobs hold, without the numbers of nodes.
use Rattle.std.specs.Prelude.{◌≡◌, ℕ, ◌+◌, List, [], ◌∷◌, ◌++◌, length, map, codes, Option, Some, None, unwrap_or}
use Rattle.std.specs.List.{filter_map, cons_option}
use Rattle.std.proofs.Common.{refl, ap, ◌∙◌}
use Rattle.std.proofs.lemmas.List.{map-append}
use Rattle.std.proofs.lemmas.List.Elements.{filter_map-append}
use Rattle.e57_layout.specs.Values.{ItemKind}
use Rattle.e57_layout.specs.Items.{AreColumns}
use Rattle.e57_nodes.specs.declared.ElementType.{ElementType}
use Rattle.e57_nodes.specs.declared.ElementType.TheVariants as element_type
use Rattle.e57_nodes.specs.Facts.{Facts}
use Rattle.e57_nodes.specs.Shape.{Shape, shape, Shapes, no_shapes, shapes, node_count, nodes_from, nodes_from_all}
use Rattle.e57_nodes.specs.Items.{StatedItem, stated_cloud, stated_blob, stated_by, stated_item, stated_items}
use Rattle.e57_verdict.specs.Things.{Body, records_body, bytes_body}
use Rattle.e57_plain.specs.Valid.{kinds_in, AreBodies}
use Rattle.e57_plain.proofs.Laws.Typing.{called, vector_kinds, fields_of-kinds}

-- a cloud by the number of its records and the kinds of its fields, or a blob by its length
pub data Form : Type 0 where
  cloud_form : ℕ → List ItemKind → Form
  blob_form : ℕ → Form

abbrev pub form_of : StatedItem → Form
form_of (stated_cloud n count fields) = cloud_form count (kinds_in fields)
form_of (stated_blob n size) = blob_form size

abbrev pub form_list : Facts → Shapes → Option ElementType → List Form
form_list facts below (Some element_type.CompressedVector) = cloud_form (unwrap_or facts.record_count 0) (vector_kinds (called (codes "prototype") below)) ∷ []
form_list facts below (Some element_type.Blob) = blob_form (unwrap_or facts.blob_length 0) ∷ []
form_list facts below other = []

abbrev mutual
  pub forms_at : Shape → List Form
  forms_at (shape facts below) = form_list facts below facts.element_type ++ forms_all below

  pub forms_all : Shapes → List Form
  forms_all no_shapes = []
  forms_all (shapes s ss) = forms_at s ++ forms_all ss

form-item : (n : ℕ) (facts : Facts) (below : Shapes) (t : Option ElementType) (items : List StatedItem)
    → map form_of (cons_option (stated_by (record { number = n; facts = facts; below = below }) t) items) ≡ form_list facts below t ++ map form_of items
form-item n facts below None items = refl
form-item n facts below (Some element_type.Structure) items = refl
form-item n facts below (Some element_type.Vector) items = refl
form-item n facts below (Some element_type.CompressedVector) items =
    ap (λ (kinds : List ItemKind). cloud_form (unwrap_or facts.record_count 0) kinds ∷ map form_of items) (fields_of-kinds (record { number = n; facts = facts; below = below }))
form-item n facts below (Some element_type.Integer) items = refl
form-item n facts below (Some element_type.ScaledInteger) items = refl
form-item n facts below (Some element_type.Float) items = refl
form-item n facts below (Some element_type.String) items = refl
form-item n facts below (Some element_type.Blob) items = refl

mutual
  unfolding stated_item

  items-forms : (n : ℕ) (s : Shape) → map form_of (filter_map stated_item (nodes_from n s)) ≡ forms_at s
  items-forms n (shape facts below) =
      form-item n facts below facts.element_type (filter_map stated_item (nodes_from_all (n + 1) below))
      ∙ ap (λ (forms : List Form). form_list facts below facts.element_type ++ forms) (items-forms_all (n + 1) below)

  items-forms_all : (n : ℕ) (ss : Shapes) → map form_of (filter_map stated_item (nodes_from_all n ss)) ≡ forms_all ss
  items-forms_all n no_shapes = refl
  items-forms_all n (shapes s ss) =
      ap (map form_of) (filter_map-append stated_item (nodes_from n s) (nodes_from_all (n + node_count s) ss))
      ∙ map-append form_of (filter_map stated_item (nodes_from n s)) (filter_map stated_item (nodes_from_all (n + node_count s) ss))
      ∙ ap (λ (forms : List Form). forms ++ map form_of (filter_map stated_item (nodes_from_all (n + node_count s) ss))) (items-forms n s)
      ∙ ap (λ (forms : List Form). forms_at s ++ forms) (items-forms_all (n + node_count s) ss)

-- The forms of a tree's clouds and blobs.
pub stated-forms : (s : Shape) → map form_of (stated_items s) ≡ forms_at s
stated-forms s = items-forms 0 s

-- ---- bodies

abbrev pub IsFormBody : Form → Body → Type 0
IsFormBody (cloud_form count kinds) (records_body columns) = AreColumns kinds count columns
IsFormBody (cloud_form count kinds) (bytes_body bytes) = ⊥
IsFormBody (blob_form size) (records_body columns) = ⊥
IsFormBody (blob_form size) (bytes_body bytes) = length bytes ≡ size

abbrev pub AreFormBodies : List Form → List Body → Type 0
AreFormBodies [] [] = Unit {0}
AreFormBodies [] (body ∷ bodies) = ⊥
AreFormBodies (form ∷ forms) [] = ⊥
AreFormBodies (form ∷ forms) (body ∷ bodies) = IsFormBody form body × AreFormBodies forms bodies

pub bodies-forms : (items : List StatedItem) (bodies : List Body) → AreBodies items bodies → AreFormBodies (map form_of items) bodies
bodies-forms [] [] are = are
bodies-forms [] (body ∷ bodies) are = are
bodies-forms (item ∷ items) [] are = are
bodies-forms (stated_cloud n count fields ∷ items) (records_body columns ∷ bodies) are = (are.0, bodies-forms items bodies are.1)
bodies-forms (stated_cloud n count fields ∷ items) (bytes_body bytes ∷ bodies) are = absurd are.0
bodies-forms (stated_blob n size ∷ items) (records_body columns ∷ bodies) are = absurd are.0
bodies-forms (stated_blob n size ∷ items) (bytes_body bytes ∷ bodies) are = (are.0, bodies-forms items bodies are.1)

pub forms-bodies : (items : List StatedItem) (bodies : List Body) → AreFormBodies (map form_of items) bodies → AreBodies items bodies
forms-bodies [] [] are = are
forms-bodies [] (body ∷ bodies) are = are
forms-bodies (item ∷ items) [] are = are
forms-bodies (stated_cloud n count fields ∷ items) (records_body columns ∷ bodies) are = (are.0, forms-bodies items bodies are.1)
forms-bodies (stated_cloud n count fields ∷ items) (bytes_body bytes ∷ bodies) are = absurd are.0
forms-bodies (stated_blob n size ∷ items) (records_body columns ∷ bodies) are = absurd are.0
forms-bodies (stated_blob n size ∷ items) (bytes_body bytes ∷ bodies) are = (are.0, forms-bodies items bodies are.1)

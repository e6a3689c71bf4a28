-- The cloud of a tree whose content is one cloud.
use Rattle.std.proofs.Common.{◌≡◌, ℕ, List, [], ◌∷◌, map, Some, None, refl, sym, subst, ap, ◌∙◌}
use Rattle.std.specs.Prelude.{slice_get}
use Rattle.e57_base.proofs.Options.{option_or_parts}
use Rattle.e57_layout.specs.Values.{Value}
use Rattle.e57_cloud.specs.Cloud.{Cloud, cloud_fault, records_of}
use Rattle.e57_elements.specs.Tree.{Element, preorder}
use Rattle.e57_elements.specs.declared.tree.RawNode.{RawNode}
use Rattle.e57_nodes.specs.Items.{StatedItem, stated_cloud, stated_blob, stated_items, leaves_of}
use Rattle.e57_nodes.specs.Places.{places_in}
use Rattle.e57_nodes.specs.Shape.{shape_of}
use Rattle.e57_nodes.specs.Typed.{typed_fault}
use Rattle.e57_tree.specs.Held.{clouds_among, fields_among, items_among, no_cloud}
use Rattle.e57_tree.specs.declared.items.Item.TheVariants as item
use Rattle.e57_verdict.specs.Content.{Content, IsContent}
use Rattle.e57_verdict.specs.Things.{Body, records_body, bytes_body, body_of, things_at, things_fault, things_in}
use Rattle.e57_verdict.specs.Verdict.{fault_behind_text, IsSoundFile}
use Rattle.e57_check.specs.Checking.{HasSoundNodes, IsCloud}
use Rattle.e57_check.specs.Clouds.{cloud_of}
use Rattle.e57_copy.proofs.OneTree.{one-tree}
use Rattle.e57_copy.proofs.Walking.{item-at}
use Rattle.e57_copy.specs.Several.{content_in}
use Rattle.e57_trial.specs.Accepted.{HasColumns}
use Rattle.e57_trial.specs.Summing.{first_cloud}

-- each file has one content
abbrev pub IsOneContent : Type 0
IsOneContent = (file : List ℕ) (a b : Content) → IsContent file a → IsContent file b → a ≡ b

-- The first cloud of the tree is there, and has no fault in the file and these columns.
pub record IsOnly (file : List ℕ) (e : Element) (columns : List (List Value)) : Type 0 where
  pub is_cloud : IsCloud e 0
  pub free : cloud_fault file (first_cloud e) ≡ None
  pub records : records_of file (first_cloud e) ≡ columns

-- the first of these clouds with its place
abbrev cloud-among : List StatedItem → List ℕ → Cloud
cloud-among items places = cloud_of (Rattle.std.specs.Prelude.slice_index_or (clouds_among items places) 0 no_cloud) (leaves_of (Rattle.std.specs.Prelude.slice_index_or (fields_among items) 0 []))

record IsFirst (file : List ℕ) (items : List StatedItem) (places : List ℕ) (columns : List (List Value)) : Type 0 where
  there : slice_get (items_among 0 0 items) 0 ≡ Some (item.Cloud 0)
  free : cloud_fault file (cloud-among items places) ≡ None
  records : records_of file (cloud-among items places) ≡ columns

first-body : (x y : Body) (xs ys : List Body) → ◌≡◌ {A = List Body} (x ∷ xs) (y ∷ ys) → x ≡ y
first-body x y xs ys same = cc

same-columns : (xs ys : List (List Value)) → ◌≡◌ {A = Body} (records_body xs) (records_body ys) → xs ≡ ys
same-columns xs ys same = cc

no-bytes : (bytes : List ℕ) (columns : List (List Value)) → ◌≡◌ {A = Body} (bytes_body bytes) (records_body columns) → ⊥
no-bytes bytes columns same = cc

no-bodies : (x : Body) (xs : List Body) → ◌≡◌ {A = List Body} [] (x ∷ xs) → ⊥
no-bodies x xs same = cc

first-there : (file : List ℕ) (items : List StatedItem) (places : List ℕ) (columns : List (List Value)) → map (body_of file) (things_at items places) ≡ records_body columns ∷ [] → things_fault file (things_at items places) ≡ None
    → IsFirst file items places columns
first-there file [] places columns same free = absurd (no-bodies (records_body columns) [] same)
first-there file (x ∷ items) [] columns same free = absurd (no-bodies (records_body columns) [] same)
first-there file (stated_cloud n count fields ∷ items) (place ∷ places) columns same free =
    let c : Cloud = record { node = n; offset = place; count = count; leaves = leaves_of fields } in
    record {
      there = refl;
      free = (option_or_parts (cloud_fault file c) (things_fault file (things_at items places)) free).0;
      records = same-columns (records_of file c) columns (first-body (records_body (records_of file c)) (records_body columns) (map (body_of file) (things_at items places)) [] same);
    }
first-there file (stated_blob n size ∷ items) (place ∷ places) columns same free =
    absurd (no-bytes _ columns (first-body _ (records_body columns) (map (body_of file) (things_at items places)) [] same))

-- The tree that was judged states just this cloud.
pub only-cloud : IsOneContent → (file : List ℕ) (nodes : List RawNode) (e : Element) (columns : List (List Value)) → HasSoundNodes file nodes → nodes ≡ preorder e → HasColumns file columns → IsOnly file e columns
unfolding fault_behind_text
only-cloud one file nodes e columns has same is =
    let tree : has.tree ≡ e = one-tree nodes has.tree e has.in_preorder same in
    let sound : IsSoundFile file e = subst (λ (d : Element). IsSoundFile file d) tree has.sound in
    let content = one file is.content (content_in file e) is.of_file (record { tree = e; is_sound = sound; same_tree = refl; same_bodies = refl }) in
    let bodies : map (body_of file) (things_in e) ≡ records_body columns ∷ [] = sym (ap (λ (c : Content). c.bodies) content) ∙ is.one in
    let parts = option_or_parts (typed_fault (shape_of e)) (things_fault file (things_in e)) sound.sound in
    let first = first-there file (stated_items (shape_of e)) (places_in e) columns bodies parts.1 in
    record {
      is_cloud = (item-at e 0 (item.Cloud 0) parts.0 first.there).is_item;
      free = first.free;
      records = first.records;
    }

-- The clouds and blobs of a tree, one after another: which one an item of the tree's list is.
use Rattle.std.proofs.Common.{◌≡◌, ℕ, zero, suc, ◌+◌, List, [], ◌∷◌, length, drop, Some, None, slice_get, refl, sym, ap, subst, ◌∙◌, arith, add-one}
use Rattle.std.specs.List.{AllByRecursion}
use Rattle.std.proofs.lemmas.Option.{get_or_from_slice_get}
use Rattle.e57_base.proofs.Lists.{first_left, none_left, stands_at}
use Rattle.e57_elements.specs.Tree.{Element}
use Rattle.e57_layout.specs.declared.field.Field.{Field}
use Rattle.e57_nodes.specs.Shape.{shape_of, node_count}
use Rattle.e57_nodes.specs.Typed.{typed_fault}
use Rattle.e57_nodes.specs.Places.{places_in}
use Rattle.e57_nodes.specs.Items.{StatedItem, stated_cloud, stated_blob, stated_items, leaves_of}
use Rattle.e57_nodes.proofs.Laws.Sound.{IsSoundItem, sound_items}
use Rattle.e57_nodes.proofs.Laws.Stated.{length-stated_items}
use Rattle.e57_tree.specs.declared.items.Cloud.{Cloud}
use Rattle.e57_tree.specs.declared.items.Blob.{Blob}
use Rattle.e57_tree.specs.declared.items.Item.{Item}
use Rattle.e57_tree.specs.declared.items.Item.TheVariants as item
use Rattle.e57_tree.specs.Held.{clouds_among, blobs_among, items_among, fields_among, clouds_of, blobs_of, items_of, cloud_fields, no_cloud, no_blob, cloud_in, blob_in, fields_in}
use Rattle.e57_verdict.specs.Things.{Thing, cloud_thing, blob_thing, thing_at, things_at, things_in}
use Rattle.e57_check.specs.Clouds.{cloud_of}
use Rattle.e57_check.specs.Checking.{thing_in}
use Rattle.e57_copy.specs.Items.{IsItem, stated_in}

-- What is left from item i on: these items with their places, behind so many clouds and blobs.
record Left (e : Element) (i : ℕ) (rest : List StatedItem) (places : List ℕ) (clouds blobs : ℕ) : Type 0 where
  items_left : drop i (items_of e) ≡ items_among clouds blobs rest
  stated_left : drop i (stated_items (shape_of e)) ≡ rest
  things_left : drop i (things_in e) ≡ things_at rest places
  clouds_left : drop clouds (clouds_of e) ≡ clouds_among rest places
  blobs_left : drop blobs (blobs_of e) ≡ blobs_among rest places
  fields_left : drop clouds (cloud_fields e) ≡ fields_among rest
  as_many : length places ≡ length rest
  sound : AllByRecursion (IsSoundItem (node_count (shape_of e))) rest

-- Item i of the tree's list is item i of what it states, and of its clouds and blobs with their places.
pub record IsAt (e : Element) (i : ℕ) (x : Item) : Type 0 where
  pub is_item : IsItem e x
  pub stated : slice_get (stated_items (shape_of e)) i ≡ Some (stated_in e x)
  pub thing : slice_get (things_in e) i ≡ Some (thing_in e x)

record Next (e : Element) (i : ℕ) (x : Item) : Type 0 where
  here : IsAt e i x
  rest : List StatedItem
  places : List ℕ
  clouds : ℕ
  blobs : ℕ
  left : Left e (i + 1) rest places clouds blobs

cloud-next : (e : Element) (i n records : ℕ) (fields : List Field) (rest : List StatedItem) (place : ℕ) (places : List ℕ) (c b : ℕ)
    → Left e i (stated_cloud n records fields ∷ rest) (place ∷ places) c b → Next e i (item.Cloud c)
cloud-next e i n records fields rest place places c b left =
    let cloud : Cloud = record { node = n; place = place; count = records } in
    let here = stands_at (clouds_of e) c cloud (clouds_among rest places) left.clouds_left in
    let row = stands_at (cloud_fields e) c fields (fields_among rest) left.fields_left in
    let is : cloud_in e c ≡ cloud = get_or_from_slice_get (clouds_of e) c cloud no_cloud here.got in
    let of : fields_in e c ≡ fields = get_or_from_slice_get (cloud_fields e) c fields [] row.got in
    let thing : thing_in e (item.Cloud c) ≡ thing_at (stated_cloud n records fields) place =
    ap (λ (x : Cloud). cloud_thing (cloud_of x (leaves_of (fields_in e c)))) is ∙ ap (λ (fs : List Field). cloud_thing (cloud_of cloud (leaves_of fs))) of in
    let stated : stated_in e (item.Cloud c) ≡ stated_cloud n records fields =
    ap (λ (x : Cloud). stated_cloud x.node x.count (fields_in e c)) is ∙ ap (λ (fs : List Field). stated_cloud n records fs) of in
    let at_stated = stands_at (stated_items (shape_of e)) i (stated_cloud n records fields) rest left.stated_left in
    let at_thing = stands_at (things_in e) i (thing_at (stated_cloud n records fields) place) (things_at rest places) left.things_left in
    let counted : (cloud_in e c).count ≡ records = ap (λ (x : Cloud). x.count) is in
    let most = left.sound.0.few_records in
    record {
      here = record {
        is_item = record { there = here.there; few = omega (arith, counted, most) };
        stated = at_stated.got ∙ ap (λ (s : StatedItem). Some s) (sym stated);
        thing = at_thing.got ∙ ap (λ (t : Thing). Some t) (sym thing);
      };
      rest = rest;
      places = places;
      clouds = c + 1;
      blobs = b;
      left = record {
        items_left = (stands_at (items_of e) i (item.Cloud c) (items_among (c + 1) b rest) left.items_left).after;
        stated_left = at_stated.after;
        things_left = at_thing.after;
        clouds_left = here.after;
        blobs_left = left.blobs_left;
        fields_left = row.after;
        as_many = let many = left.as_many in omega (arith, many);
        sound = left.sound.1;
      };
    }

blob-next : (e : Element) (i n size : ℕ) (rest : List StatedItem) (place : ℕ) (places : List ℕ) (c b : ℕ)
    → Left e i (stated_blob n size ∷ rest) (place ∷ places) c b → Next e i (item.Blob b)
blob-next e i n size rest place places c b left =
    let blob : Blob = record { node = n; place = place; length = size } in
    let here = stands_at (blobs_of e) b blob (blobs_among rest places) left.blobs_left in
    let is : blob_in e b ≡ blob = get_or_from_slice_get (blobs_of e) b blob no_blob here.got in
    let thing : thing_in e (item.Blob b) ≡ thing_at (stated_blob n size) place = ap (λ (x : Blob). blob_thing (record { node = x.node; offset = x.place; length = x.length })) is in
    let stated : stated_in e (item.Blob b) ≡ stated_blob n size = ap (λ (x : Blob). stated_blob x.node x.length) is in
    let at_stated = stands_at (stated_items (shape_of e)) i (stated_blob n size) rest left.stated_left in
    let at_thing = stands_at (things_in e) i (thing_at (stated_blob n size) place) (things_at rest places) left.things_left in
    record {
      here = record {
        is_item = here.there;
        stated = at_stated.got ∙ ap (λ (s : StatedItem). Some s) (sym stated);
        thing = at_thing.got ∙ ap (λ (t : Thing). Some t) (sym thing);
      };
      rest = rest;
      places = places;
      clouds = c;
      blobs = b + 1;
      left = record {
        items_left = (stands_at (items_of e) i (item.Blob b) (items_among c (b + 1) rest) left.items_left).after;
        stated_left = at_stated.after;
        things_left = at_thing.after;
        clouds_left = left.clouds_left;
        blobs_left = here.after;
        fields_left = left.fields_left;
        as_many = let many = left.as_many in omega (arith, many);
        sound = left.sound.1;
      };
    }

by-item : (e : Element) (i : ℕ) (x : Item) (rest : List StatedItem) (places : List ℕ) (c b : ℕ)
    → Left e i rest places c b → slice_get (items_of e) i ≡ Some x → Next e i x
by-item e i x [] places c b left got = absurd (none_left (items_of e) i x got left.items_left)
by-item e i x (s ∷ rest) [] c b left got = let many = left.as_many in absurd (omega (arith, many))
by-item e i x (stated_cloud n records fields ∷ rest) (place ∷ places) c b left got =
    let same = first_left (items_of e) i x (item.Cloud c) (items_among (c + 1) b rest) got left.items_left in
    subst (λ (y : Item). Next e i y) (sym same) (cloud-next e i n records fields rest place places c b left)
by-item e i x (stated_blob n size ∷ rest) (place ∷ places) c b left got =
    let same = first_left (items_of e) i x (item.Blob b) (items_among c (b + 1) rest) got left.items_left in
    subst (λ (y : Item). Next e i y) (sym same) (blob-next e i n size rest place places c b left)

begins : (e : Element) → typed_fault (shape_of e) ≡ None → Left e 0 (stated_items (shape_of e)) (places_in e) 0 0
begins e typed = record {
  items_left = refl;
  stated_left = refl;
  things_left = refl;
  clouds_left = refl;
  blobs_left = refl;
  fields_left = refl;
  as_many = sym (length-stated_items e);
  sound = sound_items e typed;
}

-- what is left from some item on
record LeftAt (e : Element) (i : ℕ) : Type 0 where
  rest : List StatedItem
  places : List ℕ
  clouds : ℕ
  blobs : ℕ
  left : Left e i rest places clouds blobs

earlier : {X : Type 0} (xs : List X) (i : ℕ) (x : X) → slice_get xs (suc i) ≡ Some x → (y : X) × (slice_get xs i ≡ Some y)
earlier [] i x got = absurd cc
earlier (z ∷ zs) zero x got = (z, refl)
earlier (z ∷ zs) (suc i) x got = earlier zs i x got

left-at : (e : Element) (i : ℕ) (x : Item) → typed_fault (shape_of e) ≡ None → slice_get (items_of e) i ≡ Some x → LeftAt e i
left-at e zero x typed got = record { rest = stated_items (shape_of e); places = places_in e; clouds = 0; blobs = 0; left = begins e typed }
left-at e (suc i) x typed got =
    let before = earlier (items_of e) i x got in
    let at_i = left-at e i before.0 typed before.1 in
    let next = by-item e i before.0 at_i.rest at_i.places at_i.clouds at_i.blobs at_i.left before.1 in
    record { rest = next.rest; places = next.places; clouds = next.clouds; blobs = next.blobs; left = subst (λ k. Left e k next.rest next.places next.clouds next.blobs) (add-one i) next.left }

pub item-at : (e : Element) (i : ℕ) (x : Item) → typed_fault (shape_of e) ≡ None → slice_get (items_of e) i ≡ Some x → IsAt e i x
item-at e i x typed got =
    let at_i = left-at e i x typed got in
    (by-item e i x at_i.rest at_i.places at_i.clouds at_i.blobs at_i.left got).here

-- ---- how many they are

pub length-items_among : (items : List StatedItem) (c b : ℕ) → length (items_among c b items) ≡ length items
length-items_among [] c b = refl
length-items_among (stated_cloud n count fields ∷ items) c b = ap suc (length-items_among items (c + 1) b)
length-items_among (stated_blob n size ∷ items) c b = ap suc (length-items_among items c (b + 1))

length-things_at : (items : List StatedItem) (places : List ℕ) → length places ≡ length items → length (things_at items places) ≡ length items
length-things_at [] places same = refl
length-things_at (i ∷ items) [] same = absurd (omega arith)
length-things_at (i ∷ items) (place ∷ places) same = ap suc (length-things_at items places (omega arith))

pub length-things_in : (e : Element) → length (things_in e) ≡ length (stated_items (shape_of e))
length-things_in e = length-things_at (stated_items (shape_of e)) (places_in e) (sym (length-stated_items e))

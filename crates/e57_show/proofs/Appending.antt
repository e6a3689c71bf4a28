-- The lines of a tree, item after item.
use Rattle.std.proofs.Common.{◌≡◌, ℕ, ◌+◌, ◌<◌, ◌≤◌, List, [], ◌∷◌, ◌++◌, length, drop, get_or, Some, slice_get, None, Result, Ok, Err, refl, sym, ap, subst, ◌∙◌, arith, append_assoc}
use Rattle.std.specs.List.{AllByRecursion}
use Rattle.std.specs.Prelude.{OnOk}
use Rattle.std.proofs.lemmas.Option.{get_or_from_slice_get, slice_get-get_or}
use Rattle.std.proofs.Math.ListN.{drop_of_length-le}
use Rattle.std.proofs.lemmas.List.{append-nil}
use Rattle.e57_elements.specs.Tree.{Element, preorder}
use Rattle.e57_layout.specs.declared.field.Field.{Field}
use Rattle.e57_nodes.specs.Shape.{Shape, shape_of}
use Rattle.e57_nodes.specs.Typed.{typed_fault}
use Rattle.e57_nodes.specs.Places.{places_in}
use Rattle.e57_nodes.specs.Items.{StatedItem, stated_cloud, stated_blob, stated_items}
use Rattle.e57_nodes.proofs.Laws.Sound.{IsSoundItem, sound_items}
use Rattle.e57_nodes.proofs.Laws.Stated.{length-stated_items}
use Rattle.e57_nodes.specs.Paths.{path_of}
use Rattle.e57_tree.specs.declared.items.Cloud.{Cloud}
use Rattle.e57_tree.specs.declared.items.Blob.{Blob}
use Rattle.e57_tree.specs.declared.items.Item.{Item}
use Rattle.e57_tree.specs.declared.items.Item.TheVariants as item
use Rattle.e57_tree.specs.Held.{clouds_among, blobs_among, items_among, fields_among, clouds_of, blobs_of, items_of, cloud_fields, no_cloud, no_blob, cloud_in, blob_in, fields_in}
use Rattle.e57_tree.proofs.Laws.Flat.{node_count-shape_of}
use Rattle.e57_show.specs.Listing.{cloud_line, blob_line, field_lines, item_lines, list_text}
use Rattle.e57_show.specs.Items.{IsItemFrom, AppendsItem, cloud_text, blob_text}
use Rattle.e57_base.proofs.Lists.{stands_at, first_left, none_left}
use Rattle.e57_show.proofs.Rising.{Rise, stated_rise}

-- What the lines stand for: the first i items of the tree, of which none stands behind node low. These are the rest, with their places, and so many clouds and
-- blobs stand before.
pub record IsListing (e : Element) (low i : ℕ) (text : List ℕ) : Type 0 where
  pub rest : List StatedItem
  pub places : List ℕ
  pub clouds : ℕ
  pub blobs : ℕ
  pub items_left : drop i (items_of e) ≡ items_among clouds blobs rest
  pub clouds_left : drop clouds (clouds_of e) ≡ clouds_among rest places
  pub blobs_left : drop blobs (blobs_of e) ≡ blobs_among rest places
  pub fields_left : drop clouds (cloud_fields e) ≡ fields_among rest
  pub as_many : length places ≡ length rest
  pub sound : AllByRecursion (IsSoundItem (length (preorder e))) rest
  pub rise : Rise low rest
  pub lines : list_text (shape_of e) ≡ text ++ item_lines (shape_of e) clouds blobs rest

-- Item i is there, and its lines are the next.
pub record IsNextItem (e : Element) (low i : ℕ) (text : List ℕ) (x : Item) : Type 0 where
  pub is_item : IsItemFrom e low x
  pub goes_on : (longer : List ℕ) (node : ℕ) → AppendsItem e x text longer node → IsListing e node (i + 1) longer

-- one more line of a longer text
joined : (all text longer piece rest : List ℕ) → all ≡ text ++ (piece ++ rest) → longer ≡ text ++ piece → all ≡ longer ++ rest
joined all text longer piece rest is so = is ∙ sym (append_assoc text piece rest) ∙ ap (λ xs. xs ++ rest) (sym so)

cloud_next : (e : Element) (low i : ℕ) (text : List ℕ) (n count : ℕ) (fields : List Field) (rest : List StatedItem) (place : ℕ) (places : List ℕ) (c b : ℕ)
    → drop i (items_of e) ≡ items_among c b (stated_cloud n count fields ∷ rest) → drop c (clouds_of e) ≡ clouds_among (stated_cloud n count fields ∷ rest) (place ∷ places)
    → drop b (blobs_of e) ≡ blobs_among (stated_cloud n count fields ∷ rest) (place ∷ places) → drop c (cloud_fields e) ≡ fields_among (stated_cloud n count fields ∷ rest)
    → length places ≡ length rest → Rise low (stated_cloud n count fields ∷ rest) → AllByRecursion (IsSoundItem (length (preorder e))) (stated_cloud n count fields ∷ rest) → list_text (shape_of e) ≡ text ++ item_lines (shape_of e) c b (stated_cloud n count fields ∷ rest)
    → IsNextItem e low i text (item.Cloud c)
cloud_next e low i text n count fields rest place places c b items clouds blobs rows many rise sound lines =
    let cloud : Cloud = record { node = n; place = place; count = count } in
    let here = stands_at (clouds_of e) c cloud (clouds_among rest places) clouds in
    let row = stands_at (cloud_fields e) c fields (fields_among rest) rows in
    let is : cloud_in e c ≡ cloud = get_or_from_slice_get (clouds_of e) c cloud no_cloud here.got in
    let of : fields_in e c ≡ fields = get_or_from_slice_get (cloud_fields e) c fields [] row.got in
    let piece : cloud_text e c ≡ cloud_line c (path_of (shape_of e) n) count (length fields) ++ field_lines 0 fields =
    ap (λ (x : Cloud). cloud_line c (path_of (shape_of e) x.node) x.count (length (fields_in e c)) ++ field_lines 0 (fields_in e c)) is
    ∙ ap (λ (fs : List Field). cloud_line c (path_of (shape_of e) n) count (length fs) ++ field_lines 0 fs) of in
    record {
      is_item = record {
        is_item = record { there = here.there; inside = subst (λ (x : Cloud). x.node < length (preorder e)) (sym is) sound.0.number };
        from = subst (λ (x : Cloud). low ≤ x.node) (sym is) rise.0;
      };
      goes_on = λ longer node so. record {
        rest = rest;
        places = places;
        clouds = c + 1;
        blobs = b;
        items_left = (stands_at (items_of e) i (item.Cloud c) (items_among (c + 1) b rest) items).after;
        clouds_left = here.after;
        blobs_left = blobs;
        fields_left = row.after;
        as_many = many;
        sound = sound.1;
        rise = subst (λ (k : ℕ). Rise k rest) (sym (so.there ∙ ap (λ (x : Cloud). x.node) is)) rise.1;
        lines = joined (list_text (shape_of e)) text longer (cloud_line c (path_of (shape_of e) n) count (length fields) ++ field_lines 0 fields) (item_lines (shape_of e) (c + 1) b rest) lines (so.lines ∙ ap (λ p. text ++ p) piece);
      };
    }

blob_next : (e : Element) (low i : ℕ) (text : List ℕ) (n size : ℕ) (rest : List StatedItem) (place : ℕ) (places : List ℕ) (c b : ℕ)
    → drop i (items_of e) ≡ items_among c b (stated_blob n size ∷ rest) → drop c (clouds_of e) ≡ clouds_among (stated_blob n size ∷ rest) (place ∷ places)
    → drop b (blobs_of e) ≡ blobs_among (stated_blob n size ∷ rest) (place ∷ places) → drop c (cloud_fields e) ≡ fields_among (stated_blob n size ∷ rest)
    → length places ≡ length rest → Rise low (stated_blob n size ∷ rest) → AllByRecursion (IsSoundItem (length (preorder e))) (stated_blob n size ∷ rest) → list_text (shape_of e) ≡ text ++ item_lines (shape_of e) c b (stated_blob n size ∷ rest)
    → IsNextItem e low i text (item.Blob b)
blob_next e low i text n size rest place places c b items clouds blobs rows many rise sound lines =
    let blob : Blob = record { node = n; place = place; length = size } in
    let here = stands_at (blobs_of e) b blob (blobs_among rest places) blobs in
    let is : blob_in e b ≡ blob = get_or_from_slice_get (blobs_of e) b blob no_blob here.got in
    let piece : blob_text e b ≡ blob_line b (path_of (shape_of e) n) size = ap (λ (x : Blob). blob_line b (path_of (shape_of e) x.node) x.length) is in
    record {
      is_item = record {
        is_item = record { there = here.there; inside = subst (λ (x : Blob). x.node < length (preorder e)) (sym is) sound.0.number };
        from = subst (λ (x : Blob). low ≤ x.node) (sym is) rise.0;
      };
      goes_on = λ longer node so. record {
        rest = rest;
        places = places;
        clouds = c;
        blobs = b + 1;
        items_left = (stands_at (items_of e) i (item.Blob b) (items_among c (b + 1) rest) items).after;
        clouds_left = clouds;
        blobs_left = here.after;
        fields_left = rows;
        as_many = many;
        sound = sound.1;
        rise = subst (λ (k : ℕ). Rise k rest) (sym (so.there ∙ ap (λ (x : Blob). x.node) is)) rise.1;
        lines = joined (list_text (shape_of e)) text longer (blob_line b (path_of (shape_of e) n) size) (item_lines (shape_of e) c (b + 1) rest) lines (so.lines ∙ ap (λ p. text ++ p) piece);
      };
    }

next : (e : Element) (low i : ℕ) (text : List ℕ) (x : Item) (rest : List StatedItem) (places : List ℕ) (c b : ℕ)
    → drop i (items_of e) ≡ items_among c b rest → drop c (clouds_of e) ≡ clouds_among rest places
    → drop b (blobs_of e) ≡ blobs_among rest places → drop c (cloud_fields e) ≡ fields_among rest
    → length places ≡ length rest → Rise low rest → AllByRecursion (IsSoundItem (length (preorder e))) rest → list_text (shape_of e) ≡ text ++ item_lines (shape_of e) c b rest
    → slice_get (items_of e) i ≡ Some x → IsNextItem e low i text x
next e low i text x [] places c b items clouds blobs rows many rise sound lines got = absurd (none_left (items_of e) i x got items)
next e low i text x (s ∷ rest) [] c b items clouds blobs rows many rise sound lines got = absurd (omega arith)
next e low i text x (stated_cloud n count fields ∷ rest) (place ∷ places) c b items clouds blobs rows many rise sound lines got =
    let same = first_left (items_of e) i x (item.Cloud c) (items_among (c + 1) b rest) got items in
    subst (λ (y : Item). IsNextItem e low i text y) (sym same) (cloud_next e low i text n count fields rest place places c b items clouds blobs rows (omega arith) rise sound lines)
next e low i text x (stated_blob n size ∷ rest) (place ∷ places) c b items clouds blobs rows many rise sound lines got =
    let same = first_left (items_of e) i x (item.Blob b) (items_among c (b + 1) rest) got items in
    subst (λ (y : Item). IsNextItem e low i text y) (sym same) (blob_next e low i text n size rest place places c b items clouds blobs rows (omega arith) rise sound lines)

pub next_item : (e : Element) (low i : ℕ) (text : List ℕ) (x : Item) → IsListing e low i text → slice_get (items_of e) i ≡ Some x → IsNextItem e low i text x
next_item e low i text x h got = next e low i text x h.rest h.places h.clouds h.blobs h.items_left h.clouds_left h.blobs_left h.fields_left h.as_many h.rise h.sound h.lines got

-- ---- the first item, and the end

pub begins : (e : Element) → typed_fault (shape_of e) ≡ None → IsListing e 0 0 []
begins e typed =
    record {
      rest = stated_items (shape_of e);
      places = places_in e;
      clouds = 0;
      blobs = 0;
      items_left = refl;
      clouds_left = refl;
      blobs_left = refl;
      fields_left = refl;
      as_many = sym (length-stated_items e);
      sound = subst (λ n. AllByRecursion (IsSoundItem n) (stated_items (shape_of e))) (node_count-shape_of e) (sound_items e typed);
      rise = stated_rise (shape_of e);
      lines = refl;
    }

no_more : (tree : Shape) (c b : ℕ) (rest : List StatedItem) → items_among c b rest ≡ [] → item_lines tree c b rest ≡ []
no_more tree c b [] e = refl
no_more tree c b (stated_cloud n count fields ∷ rest) e = absurd cc
no_more tree c b (stated_blob n size ∷ rest) e = absurd cc

pub ends : (e : Element) (low i : ℕ) (text : List ℕ) → IsListing e low i text → drop i (items_of e) ≡ [] → text ≡ list_text (shape_of e)
ends e low i text h none =
    sym (h.lines ∙ ap (λ xs. text ++ xs) (no_more (shape_of e) h.clouds h.blobs h.rest (sym h.items_left ∙ none)) ∙ append-nil text)

-- ---- what stands at a place

-- the items are those of the tree
pub item_there : (e : Element) (xs : List Item) (i : ℕ) (d : Item) → xs ≡ items_of e → i < length xs → slice_get (items_of e) i ≡ Some (get_or xs i d)
item_there e xs i d same h = subst (λ (ys : List Item). slice_get ys i ≡ Some (get_or xs i d)) same (slice_get-get_or xs i d h)

pub none_after : (e : Element) (xs : List Item) (i : ℕ) → xs ≡ items_of e → length xs ≤ i → drop i (items_of e) ≡ []
none_after e xs i same h = subst (λ (ys : List Item). drop i ys ≡ []) same (drop_of_length-le xs h)

-- ---- the lines of one item

pub blob_appends : {T E : Type 0} (r : Result T E) (e : Element) (k number : ℕ) (blobs : List Blob) (path old new : List ℕ) (node : ℕ)
    → number ≡ k → blobs ≡ blobs_of e → path ≡ path_of (shape_of e) node → node ≡ (get_or blobs k no_blob).node
    → OnOk r (new ≡ old ++ blob_line number path (get_or blobs k no_blob).length) → OnOk r (AppendsItem e (item.Blob k) old new node)
blob_appends (Err x) e k number blobs path old new node n all p there h = tt
blob_appends (Ok x) e k number blobs path old new node n all p there h =
    record {
      lines =
          h ∙ ap (λ j. old ++ blob_line j path (get_or blobs k no_blob).length) n
          ∙ ap (λ q. old ++ blob_line k q (get_or blobs k no_blob).length) (p ∙ ap (path_of (shape_of e)) there)
          ∙ ap (λ (bs : List Blob). old ++ blob_line k (path_of (shape_of e) (get_or bs k no_blob).node) (get_or bs k no_blob).length) all;
      there = there ∙ ap (λ (bs : List Blob). (get_or bs k no_blob).node) all;
    }

pub cloud_appends : {T E : Type 0} (r : Result T E) (e : Element) (k number : ℕ) (clouds : List Cloud) (fields : List Field) (path old mid new : List ℕ) (node : ℕ)
    → number ≡ k → clouds ≡ clouds_of e → slice_get (cloud_fields e) k ≡ Some fields → path ≡ path_of (shape_of e) node → node ≡ (get_or clouds k no_cloud).node
    → mid ≡ old ++ cloud_line number path (get_or clouds k no_cloud).count (length fields) → OnOk r (new ≡ mid ++ field_lines 0 fields) → OnOk r (AppendsItem e (item.Cloud k) old new node)
cloud_appends (Err x) e k number clouds fields path old mid new node n all got p there first h = tt
cloud_appends (Ok x) e k number clouds fields path old mid new node n all got p there first h =
    let of : fields ≡ fields_in e k = sym (get_or_from_slice_get (cloud_fields e) k fields [] got) in
    let count : ℕ = (get_or clouds k no_cloud).count in
    record {
      lines =
          h ∙ ap (λ xs. xs ++ field_lines 0 fields) first ∙ append_assoc old (cloud_line number path count (length fields)) (field_lines 0 fields)
          ∙ ap (λ j. old ++ (cloud_line j path count (length fields) ++ field_lines 0 fields)) n
          ∙ ap (λ q. old ++ (cloud_line k q count (length fields) ++ field_lines 0 fields)) (p ∙ ap (path_of (shape_of e)) there)
          ∙ ap (λ (cs : List Cloud). old ++ (cloud_line k (path_of (shape_of e) (get_or cs k no_cloud).node) (get_or cs k no_cloud).count (length fields) ++ field_lines 0 fields)) all
          ∙ ap (λ (fs : List Field). old ++ (cloud_line k (path_of (shape_of e) (cloud_in e k).node) (cloud_in e k).count (length fs) ++ field_lines 0 fs)) of;
      there = there ∙ ap (λ (cs : List Cloud). (get_or cs k no_cloud).node) all;
    }
